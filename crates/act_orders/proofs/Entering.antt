-- What a ledger is after an act was entered, and before the first.
use Rattle.std.proofs.Common.{ℕ, zero, suc, ◌+◌, ◌<◌, ◌≤◌, ◌≡◌, ◌⊎◌, inl, inr, refl, sym, ◌∙◌, ap, subst, arith, List, [], length, map, replicate, slice_set}
use Rattle.std.specs.Prelude.{slice_index}
use Rattle.std.proofs.Math.ListN.{length-set}
use Rattle.std.proofs.lemmas.Bool.{cases_eq}
use Rattle.std.proofs.lemmas.List.FromFn.{get_or-map-range_with_len, length-map-range_with_len}
use Rattle.music_base.specs.Numbers.{below}
use Rattle.scene_model.specs.Clocks.{steps, wanted, wanted_blocks}
use Rattle.scene_model.specs.Faults.{IsFaultless}
use Rattle.scene_model.specs.Orders.{CanPut, CanRun, CanTake, Counts, one_more, opening_counts, after}
use Rattle.scene_model.specs.Scenes.{receiver}
use Rattle.scene_model.specs.declared.act.Act.{Act}
use Rattle.scene_model.specs.declared.act.Act.TheVariants.{Put, Run, Take}
use Rattle.scene_model.specs.declared.scene.Scene.{Scene}
use Rattle.scene_model.proofs.Sound.{after_act, one_more-other, one_more-same, opening_sound, zero_at}
use Rattle.act_orders.specs.declared.ledger.Ledger.{Ledger}
use Rattle.act_orders.specs.Ledgers.{Allows, IsAfter, IsLedger, counts_in}
use Rattle.act_orders.specs.OwnLinks.{into_of, out_of}
use Rattle.act_orders.proofs.Ledgers.{into-iff}

-- nothing but the counts and the needs changed
pub record SameLists (x y : Ledger) : Type 0 where
  pub limits : y.limits.items ≡ x.limits.items
  pub lasts : y.lasts.items ≡ x.lasts.items
  pub most : y.most.items ≡ x.most.items
  pub into : y.into.items ≡ x.into.items
  pub out : y.out.items ≡ x.out.items

-- a ledger with the counts after an act, and with the needs that go with them
pub entered : (scene : Scene) (x y : Ledger) → IsLedger scene x → SameLists x y → (act : Act) → Allows scene x act → counts_in y ≡ after (counts_in x) act
    → length y.needs.items ≡ length scene.links → ((c : ℕ) → c < length scene.links → slice_index y.needs.items c ≡ wanted scene c (slice_index y.run.items (receiver scene c)))
    → IsLedger scene y
entered scene x y is same act can counts count needs = record {
  faultless = is.faultless;
  limit_count = ap (λ (xs : List ℕ). length xs) same.limits ∙ is.limit_count;
  sound = rw (same.limits, counts) (after_act scene x.limits.items (counts_in x) is.sound act can);
  lasts_are = same.lasts ∙ is.lasts_are;
  most_are = same.most ∙ is.most_are;
  into_are = same.into ∙ is.into_are;
  out_are = same.out ∙ is.out_are;
  need_count = count;
  each_need = needs;
}

-- after a step of an application the needs of its own connections are those of the next one
pub needed : (scene : Scene) (x : Ledger) (is : IsLedger scene x) (a : ℕ) → a < length scene.apps → (into needs run : List ℕ) → into ≡ into_of scene a → run ≡ one_more x.run.items a
    → ((i : ℕ) → i < length into → slice_index needs (slice_index into i) ≡ wanted scene (slice_index into i) (slice_index x.run.items a + 1))
    → ((c : ℕ) → ((i : ℕ) → i < length into → slice_index into i ≡ c → ⊥) → slice_index needs c ≡ slice_index x.needs.items c)
    → (c : ℕ) → c < length scene.links → slice_index needs c ≡ wanted scene c (slice_index run (receiver scene c))
needed scene x is a app into needs run are more each others c link = go (cases_eq (receiver scene c) a)
  where
    there : a < length x.run.items
    there = omega (arith, app, is.sound.runs)

    ran : slice_index run a ≡ slice_index x.run.items a + 1
    ran = ap (λ (xs : List ℕ). slice_index xs a) more ∙ one_more-same x.run.items a there

    go : (receiver scene c ≡ a) ⊎ (receiver scene c ≡ a → ⊥) → slice_index needs c ≡ wanted scene c (slice_index run (receiver scene c))
    go (inl to) =
        (into-iff scene x is a app into are (λ d. slice_index needs d ≡ wanted scene d (slice_index x.run.items a + 1))).0 each c link to
        ∙ ap (wanted scene c) (sym ran) ∙ ap (λ b. wanted scene c (slice_index run b)) (sym to)
    go (inr ne) =
        let none : (i : ℕ) → i < length into → slice_index into i ≡ c → ⊥ = λ i small is_c. ne (ap (receiver scene) (sym is_c) ∙ (into-iff scene x is a app into are (λ d. receiver scene d ≡ a)).1 (λ d l to. to) i small) in
        others c none ∙ is.each_need c link
        ∙ ap (wanted scene c) (sym (ap (λ (xs : List ℕ). slice_index xs (receiver scene c)) more ∙ one_more-other x.run.items a (receiver scene c) ne))

-- ---- before the first act

abbrev counts_of : List ℕ → List ℕ → List ℕ → Counts
counts_of run put taken = record { run = run; put = put; taken = taken }

same_counts : (run put taken run' put' taken' : List ℕ) → run ≡ run' → put ≡ put' → taken ≡ taken' → counts_of run put taken ≡ counts_of run' put' taken'
same_counts run put taken run' put' taken' a b c = rw (a, b, c) refl

pub opened : (scene : Scene) → IsFaultless scene → (limits : List ℕ) → length limits ≡ length scene.links → (x : Ledger) → x.limits.items ≡ limits
    → x.run.items ≡ replicate (length scene.apps) 0 → x.put.items ≡ replicate (length scene.links) 0 → x.taken.items ≡ replicate (length scene.links) 0
    → x.lasts.items ≡ map (steps scene) (below (length scene.apps)) → x.most.items ≡ map (wanted_blocks scene) (below (length scene.links))
    → x.into.items ≡ map (into_of scene) (below (length scene.apps)) → x.out.items ≡ map (out_of scene) (below (length scene.apps))
    → x.needs.items ≡ map (λ c. wanted scene c 0) (below (length scene.links)) → IsAfter scene limits [] x
opened scene faultless limits counted x are_limits run put taken lasts most into out needs = record {
  kept = record {
    faultless = faultless;
    limit_count = ap (λ (xs : List ℕ). length xs) are_limits ∙ counted;
    sound = rw counts (opening_sound scene x.limits.items);
    lasts_are = lasts;
    most_are = most;
    into_are = into;
    out_are = out;
    need_count = ap (λ (xs : List ℕ). length xs) needs ∙ length-map-range_with_len (λ c. wanted scene c 0) 0 (length scene.links);
    each_need = λ c link.
        ap (λ (xs : List ℕ). slice_index xs c) needs ∙ get_or-map-range_with_len (λ d. wanted scene d 0) 0 (length scene.links) c c 0 link (omega arith)
        ∙ ap (wanted scene c) (sym (ap (λ (xs : List ℕ). slice_index xs (receiver scene c)) run ∙ zero_at (length scene.apps) (receiver scene c)));
  };
  limits_are = are_limits;
  lawful = (counted, tt);
  counts_are = counts;
}
  where
    counts : counts_in x ≡ opening_counts scene
    counts = same_counts _ _ _ _ _ _ run put taken

pub one_more_at : (xs : List ℕ) (i j x : ℕ) → i ≡ j → x ≡ slice_index xs j → slice_set xs i (x + 1) ≡ one_more xs j
one_more_at xs i j x e is = rw (e, is) refl
