-- The counts are the machines' own, before and after one of them changed.
use Rattle.std.proofs.Common.{ℕ, ◌+◌, ◌<◌, ◌≡◌, ◌⊎◌, inl, inr, refl, sym, ◌∙◌, ap, subst, arith, List, length, get_or-set_same, get_or-set_other, slice_set}
use Rattle.std.specs.Prelude.{slice_index}
use Rattle.std.proofs.lemmas.Bool.{cases_eq}
use Rattle.std.proofs.lemmas.List.{ext_get_or, length-map}
use Rattle.std.proofs.lemmas.List.FromFn.{get_or-map-range_with_len, length-map-range_with_len}
use Rattle.std.proofs.Math.ListN.{length-set, get_or-map}
use Rattle.scene_model.specs.declared.scene.Scene.{Scene}
use Rattle.scene_model.specs.declared.act.Act.TheVariants.{Take, Run, Put}
use Rattle.scene_model.specs.Scenes.{sender, receiver}
use Rattle.scene_model.specs.Orders.{Counts, run_by, put_on, taken_from, one_more, after}
use Rattle.scene_model.proofs.Sound.{one_more-same, one_more-other}
use Rattle.music_base.specs.declared.item.Block.{Block}
use Rattle.app_turn.specs.Machines.{Machine, put_by, taken_by}
use Rattle.app_turn.specs.Moves.{Gave, Ran, Took}
use Rattle.scene_model.specs.declared.row.Row.{Row}
use Rattle.step_core.specs.Cores.{machine_at, no_machine, counts_of, IsMachineOf, AreOwn}

pub one_more-agree : (xs ys : List ℕ) (c d : ℕ) → c < length xs → c < length ys → slice_index xs d ≡ slice_index ys d → slice_index (one_more xs c) d ≡ slice_index (one_more ys c) d
one_more-agree xs ys c d small low e = go (cases_eq d c)
  where
    go : (d ≡ c) ⊎ (d ≡ c → ⊥) → slice_index (one_more xs c) d ≡ slice_index (one_more ys c) d
    go (inl same) =
        let F : ℕ → Type 0 = λ i. slice_index (one_more xs c) i ≡ slice_index (one_more ys c) i in
        let at : slice_index xs c ≡ slice_index ys c = rw (← same) e in
        subst F (sym same) (one_more-same xs c small ∙ ap (λ n. n + 1) at ∙ sym (one_more-same ys c low))
    go (inr ne) = one_more-other xs c d ne ∙ e ∙ sym (one_more-other ys c d ne)

module _ (scene : Scene) (ms : List Machine) (s : Counts) (own : AreOwn scene ms s) where
  -- the counts of the machines are these
  pub own-counts : length s.run ≡ length scene.apps → length s.put ≡ length scene.links → length s.taken ≡ length scene.links → counts_of scene ms ≡ s
  unfolding counts_of
  own-counts runs puts takes = ap (λ (r : List ℕ). record { run = r; put = put; taken = taken }) run-is ∙ ap (λ (p : List ℕ). record { run = s.run; put = p; taken = taken }) put-is ∙ ap (λ (t : List ℕ). record { run = s.run; put = s.put; taken = t }) taken-is
    where
      put : List ℕ
      put = (counts_of scene ms).put

      taken : List ℕ
      taken = (counts_of scene ms).taken

      run-is : (counts_of scene ms).run ≡ s.run
      run-is = ext_get_or 0 _ _ (length-map ms (λ (m : Machine). m.ran) ∙ own.counted ∙ sym runs) (λ a small. get_or-map (λ (m : Machine). m.ran) ms a no_machine ∙ own.runs a (rw (← own.counted) (rw length-map at small)))

      put-is : put ≡ s.put
      put-is = ext_get_or 0 _ _ (length-map-range_with_len _ 0 (length scene.links) ∙ sym puts) (λ c small. let link : c < length scene.links = rw length-map-range_with_len at small in get_or-map-range_with_len (λ d. put_by (machine_at ms (sender scene d)) d) 0 (length scene.links) c c 0 link (omega arith) ∙ own.puts c link)

      taken-is : taken ≡ s.taken
      taken-is = ext_get_or 0 _ _ (length-map-range_with_len _ 0 (length scene.links) ∙ sym takes) (λ c small. let link : c < length scene.links = rw length-map-range_with_len at small in get_or-map-range_with_len (λ d. taken_by (machine_at ms (receiver scene d)) d) 0 (length scene.links) c c 0 link (omega arith) ∙ own.takes c link)

  -- machine r was replaced, and the counts changed as it did
  module _ (r : ℕ) (small : r < length scene.apps) (m : Machine) (of : IsMachineOf scene r m) (t : Counts)
      (run-at : m.ran ≡ run_by t r) (run-else : (a : ℕ) → (a ≡ r → ⊥) → run_by t a ≡ run_by s a)
      (put-at : (c : ℕ) → c < length scene.links → sender scene c ≡ r → put_by m c ≡ put_on t c) (put-else : (c : ℕ) → (sender scene c ≡ r → ⊥) → put_on t c ≡ put_on s c)
      (taken-at : (c : ℕ) → c < length scene.links → receiver scene c ≡ r → taken_by m c ≡ taken_from t c) (taken-else : (c : ℕ) → (receiver scene c ≡ r → ⊥) → taken_from t c ≡ taken_from s c) where
    there : r < length ms
    there = omega (arith, small, own.counted)

    pub machine-is : machine_at (slice_set ms r m) r ≡ m
    machine-is = get_or-set_same ms r m no_machine there

    pub replaced : AreOwn scene (slice_set ms r m) t
    replaced = record {
      counted = length-set ms r m ∙ own.counted;
      each = λ a app. each a app (cases_eq a r);
      runs = λ a app. runs a app (cases_eq a r);
      puts = λ c link. puts c link (cases_eq (sender scene c) r);
      takes = λ c link. takes c link (cases_eq (receiver scene c) r);
    }
      where
        each : (a : ℕ) → a < length scene.apps → (a ≡ r) ⊎ (a ≡ r → ⊥) → IsMachineOf scene a (machine_at (slice_set ms r m) a)
        each a app (inl e) = let F : ℕ → Type 0 = λ x. IsMachineOf scene x (machine_at (slice_set ms r m) x) in subst F (sym e) (subst (IsMachineOf scene r) (sym machine-is) of)
        each a app (inr ne) = subst (IsMachineOf scene a) (sym (get_or-set_other ms r a m no_machine ne)) (own.each a app)

        runs : (a : ℕ) → a < length scene.apps → (a ≡ r) ⊎ (a ≡ r → ⊥) → (machine_at (slice_set ms r m) a).ran ≡ run_by t a
        runs a app (inl e) = let F : ℕ → Type 0 = λ x. (machine_at (slice_set ms r m) x).ran ≡ run_by t x in subst F (sym e) (ap (λ (x : Machine). x.ran) machine-is ∙ run-at)
        runs a app (inr ne) = ap (λ (x : Machine). x.ran) (get_or-set_other ms r a m no_machine ne) ∙ own.runs a app ∙ sym (run-else a ne)

        puts : (c : ℕ) → c < length scene.links → (sender scene c ≡ r) ⊎ (sender scene c ≡ r → ⊥) → put_by (machine_at (slice_set ms r m) (sender scene c)) c ≡ put_on t c
        puts c link (inl e) = ap (λ x. put_by (machine_at (slice_set ms r m) x) c) e ∙ ap (λ (x : Machine). put_by x c) machine-is ∙ put-at c link e
        puts c link (inr ne) = ap (λ (x : Machine). put_by x c) (get_or-set_other ms r (sender scene c) m no_machine ne) ∙ own.puts c link ∙ sym (put-else c ne)

        takes : (c : ℕ) → c < length scene.links → (receiver scene c ≡ r) ⊎ (receiver scene c ≡ r → ⊥) → taken_by (machine_at (slice_set ms r m) (receiver scene c)) c ≡ taken_from t c
        takes c link (inl e) = ap (λ x. taken_by (machine_at (slice_set ms r m) x) c) e ∙ ap (λ (x : Machine). taken_by x c) machine-is ∙ taken-at c link e
        takes c link (inr ne) = ap (λ (x : Machine). taken_by x c) (get_or-set_other ms r (receiver scene c) m no_machine ne) ∙ own.takes c link ∙ sym (taken-else c ne)

  -- what machine r counted
  pub put-here : (r c : ℕ) → c < length scene.links → sender scene c ≡ r → put_by (machine_at ms r) c ≡ put_on s c
  put-here r c link e = ap (λ x. put_by (machine_at ms x) c) (sym e) ∙ own.puts c link

  pub taken-here : (r c : ℕ) → c < length scene.links → receiver scene c ≡ r → taken_by (machine_at ms r) c ≡ taken_from s c
  taken-here r c link e = ap (λ x. taken_by (machine_at ms x) c) (sym e) ∙ own.takes c link

  pub took_own : (c r : ℕ) (b : Block) (m : Machine) → c < length scene.links → c < length s.taken → receiver scene c ≡ r → r < length scene.apps → Took (machine_at ms r) c b m → AreOwn scene (slice_set ms r m) (after s (Take c))
  took_own c r b m link low to small took =
      let of = own.each r small in
      replaced r small m (record { is_scene = took.same_scene ∙ of.is_scene; is_app = took.same_app ∙ of.is_app; puts = ap (λ (l : List ℕ). length l) took.same_put ∙ of.puts; takes = ap (λ (l : List ℕ). length l) took.counts ∙ length-set (machine_at ms r).taken c _ ∙ of.takes }) (after s (Take c))
      (took.same_ran ∙ own.runs r small) (λ a ne. refl)
      (λ d at from. ap (λ (l : List ℕ). slice_index l d) took.same_put ∙ put-here r d at from) (λ d ne. refl)
      (λ d at into. ap (λ (l : List ℕ). slice_index l d) took.counts ∙ one_more-agree (machine_at ms r).taken s.taken c d (omega (arith, of.takes)) low (taken-here r d at into))
      (λ d ne. one_more-other s.taken c d (λ e. ne (ap (receiver scene) e ∙ to)))

  pub gave_own : (c r : ℕ) (m : Machine) → c < length scene.links → c < length s.put → sender scene c ≡ r → r < length scene.apps → Gave (machine_at ms r) c m → AreOwn scene (slice_set ms r m) (after s (Put c))
  gave_own c r m link low from small gave =
      let of = own.each r small in
      replaced r small m (record { is_scene = gave.same_scene ∙ of.is_scene; is_app = gave.same_app ∙ of.is_app; puts = ap (λ (l : List ℕ). length l) gave.counts ∙ length-set (machine_at ms r).put c _ ∙ of.puts; takes = ap (λ (l : List ℕ). length l) gave.same_taken ∙ of.takes }) (after s (Put c))
      (gave.same_ran ∙ own.runs r small) (λ a ne. refl)
      (λ d at out. ap (λ (l : List ℕ). slice_index l d) gave.counts ∙ one_more-agree (machine_at ms r).put s.put c d (omega (arith, of.puts)) low (put-here r d at out))
      (λ d ne. one_more-other s.put c d (λ e. ne (ap (sender scene) e ∙ from)))
      (λ d at into. ap (λ (l : List ℕ). slice_index l d) gave.same_taken ∙ taken-here r d at into) (λ d ne. refl)

  pub ran_own : (r : ℕ) (m : Machine) (rows : List Row) → r < length s.run → r < length scene.apps → Ran (machine_at ms r) m rows → AreOwn scene (slice_set ms r m) (after s (Run r))
  ran_own r m rows low small ran =
      let of = own.each r small in
      replaced r small m (record { is_scene = ran.same_scene ∙ of.is_scene; is_app = ran.same_app ∙ of.is_app; puts = ap (λ (l : List ℕ). length l) ran.same_put ∙ of.puts; takes = ap (λ (l : List ℕ). length l) ran.same_taken ∙ of.takes }) (after s (Run r))
      (ran.counts ∙ ap (λ n. n + 1) (own.runs r small) ∙ sym (one_more-same s.run r low)) (λ a ne. one_more-other s.run r a ne)
      (λ d at out. ap (λ (l : List ℕ). slice_index l d) ran.same_put ∙ put-here r d at out) (λ d ne. refl)
      (λ d at into. ap (λ (l : List ℕ). slice_index l d) ran.same_taken ∙ taken-here r d at into) (λ d ne. refl)
