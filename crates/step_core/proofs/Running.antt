-- Steps of a run, and what was written of its log.
use Rattle.std.proofs.Common.{ℕ, ◌<◌, ◌≤◌, ◌≡◌, true, ◌&&◌, arith, refl, sym, ◌∙◌, ap, subst, List, [], ◌∷◌, ◌++◌, length, append-nil, append_assoc}
use Rattle.std.specs.Prelude.{Err, Ok, OnOk, Option, Result}
use Rattle.std.specs.List.{flat_map, list_all}
use Rattle.std.proofs.lemmas.Bool.{and_parts}
use Rattle.std.proofs.lemmas.List.Concat.{flat_map-append}
use Rattle.std.proofs.lemmas.List.Folds.{list_all-append}
use Rattle.music_base.specs.Outside.{Took, TookPrefix}
use Rattle.music_base.proofs.Transfers.{Took-append, TookPrefix-front, TookPrefix-behind, TookPrefix-whole}
use Rattle.scene_model.specs.Faults.{IsFaultless}
use Rattle.scene_model.specs.Lives.{history}
use Rattle.scene_model.specs.Logs.{header, is_writable, line_of, log_of, rows, text_of}
use Rattle.scene_model.specs.Orders.{AllFinished, Counts, after, after_all}
use Rattle.scene_model.specs.declared.act.Act.{Act}
use Rattle.scene_model.specs.declared.row.Row.{Row}
use Rattle.scene_model.specs.declared.scene.Scene.{Scene}
use Rattle.scene_model.proofs.Finish.{left_of}
use Rattle.scene_model.proofs.WrittenLives.{history_written}
use Rattle.scene_model.proofs.WrittenRows.{rows_writable}
use Rattle.step_core.specs.Cores.{BeginsLog, Can, CoreView, IsAfter, IsDone, Released, did, opened, rows_out, rows_so_far}
use Rattle.step_core.specs.Running.{AreDone, DidSome, HasRun, IsRunning, text_out}
use Rattle.step_core.proofs.Finding.{after_act_is, one_less_left}
use Rattle.step_core.proofs.Releases.{all_held_at_end, begins_opened, none_opened}

-- ---- orders

-- nothing was done
pub opened_after : (scene : Scene) (limits : List ℕ) (core : CoreView) → length limits ≡ length scene.links → core ≡ opened scene limits → IsAfter scene limits [] core
opened_after scene limits core counted is = record {
  is_scene = ap (λ (x : CoreView). x.scene) is;
  are_limits = ap (λ (x : CoreView). x.limits) is;
  lawful = (counted, tt);
  are_counts = ap (λ (x : CoreView). x.counts) is;
}

-- nothing is left to do
pub done_after : (scene : Scene) (limits : List ℕ) (acts : List Act) (core : CoreView) → IsAfter scene limits acts core → AllFinished core.scene core.counts → IsDone scene limits acts core
done_after scene limits acts core is finished = record { is_after = is; finished = subst (λ (x : Scene). AllFinished x core.counts) is.is_scene finished }

-- where nothing was handed out besides, all rows of the log are held
pub held_when_done : (scene : Scene) (limits : List ℕ) (acts : List Act) (core : CoreView) → IsDone scene limits acts core → core.released ≡ (opened scene limits).released → rows_so_far core ≡ rows scene (history scene)
held_when_done scene limits acts core done kept =
    let after = done.is_after in
    let is : core ≡ record { scene = scene; limits = limits; counts = core.counts; released = (opened scene limits).released } =
    ap (λ (x : Scene). record { scene = x; limits = core.limits; counts = core.counts; released = core.released }) after.is_scene
    ∙ ap (λ (x : List ℕ). record { scene = scene; limits = x; counts = core.counts; released = core.released }) after.are_limits
    ∙ ap (λ (x : List ℕ). record { scene = scene; limits = limits; counts = core.counts; released = x }) kept in
    ap rows_so_far is ∙ all_held_at_end scene limits core.counts done.finished

same_out : (core : CoreView) (s : Counts) → rows_out (record core { counts = s }) ≡ rows_out core
unfolding rows_out
same_out core s = refl

-- one act of a run
module _ (scene : Scene) (limits : List ℕ) (core : CoreView) (run : IsRunning scene limits core) (act : Act) (can : Can core act) where
  act_runs : IsRunning scene limits (did core act)
  act_runs = record {
    order = _;
    is_after = after_act_is scene limits run.order core (did core act) act run.is_after can refl;
    begins = let begins : BeginsLog core = run.begins in (begins.0, ap (λ (l : List Row). l ++ begins.0) (same_out core (after core.counts act)) ∙ begins.1);
  }

  act_less : left_of core.scene (after core.counts act) < left_of core.scene core.counts
  act_less = let one = one_less_left scene limits run.order core (did core act) act run.is_after can refl in omega (arith, one)

-- some acts of a run
module _ (scene : Scene) (limits : List ℕ) where
  runs_along : (acts : List Act) (core next : CoreView) → IsRunning scene limits core → AreDone core acts next → IsRunning scene limits next
  runs_along [] core next run is = subst (IsRunning scene limits) (sym is.is) run
  runs_along (act ∷ acts) core next run is = runs_along acts (did core act) next (act_runs scene limits core run act is.lawful.0) (record { lawful = is.lawful.1; is = is.is })

  left_along : (acts : List Act) (core next : CoreView) → IsRunning scene limits core → AreDone core acts next → left_of next.scene next.counts ≤ left_of core.scene core.counts
  left_along [] core next run is = let same = ap (λ (x : CoreView). left_of x.scene x.counts) is.is in omega (arith, same)
  left_along (act ∷ acts) core next run is =
      let rest = left_along acts (did core act) next (act_runs scene limits core run act is.lawful.0) (record { lawful = is.lawful.1; is = is.is }) in
      omega (arith, rest, act_less scene limits core run act is.lawful.0)

module _ (scene : Scene) (limits : List ℕ) (core next : CoreView) (run : IsRunning scene limits core) where
  -- acts
  module _ (some : DidSome core next) where
    -- hand out no rows
    pub out_stays : rows_out next ≡ rows_out core
    out_stays = ap rows_out some.more.1.is ∙ same_out core (after_all (after core.counts some.act) some.more.0)

    pub text_stays : text_out next ≡ text_out core
    text_stays = ap (λ (s : Scene). text_of s (rows_out next)) (ap (λ (x : CoreView). x.scene) some.more.1.is) ∙ ap (text_of core.scene) out_stays

    pub turn_took : (before after : Option (List ℕ)) → Took before (text_out core) after → Took before (text_out next) after
    turn_took before after took = subst (λ (l : List ℕ). Took before l after) (sym text_stays) took

    -- and leave less to do
    pub turn_less : left_of next.scene next.counts < left_of core.scene core.counts
    turn_less = omega (arith, left_along scene limits some.more.0 (did core some.act) next (act_runs scene limits core run some.act some.can) some.more.1, act_less scene limits core run some.act some.can)

    -- also after a release
    pub release_less : (last : CoreView) (handed : List Row) → Released next handed last → left_of last.scene last.counts < left_of core.scene core.counts
    release_less last handed released =
        let same : left_of last.scene last.counts ≡ left_of next.scene next.counts = ap (λ (x : Scene). left_of x last.counts) released.same_scene ∙ ap (left_of next.scene) released.same_counts in
        subst (λ n. n < left_of core.scene core.counts) (sym same) turn_less

    pub turn_runs : IsRunning scene limits next
    turn_runs = runs_along scene limits some.more.0 (did core some.act) next (act_runs scene limits core run some.act some.can) some.more.1

  -- a turn in which nothing was done leaves all as it is
  module _ (same : next ≡ core) where
    pub still_runs : IsRunning scene limits next
    still_runs = subst (IsRunning scene limits) (sym same) run

    pub still_took : (before after : Option (List ℕ)) → Took before (text_out core) after → Took before (text_out next) after
    still_took before after took = subst (λ (x : CoreView). Took before (text_out x) after) (sym same) took

    pub still_finished : AllFinished core.scene core.counts → AllFinished next.scene next.counts
    still_finished finished = subst (λ (x : CoreView). AllFinished x.scene x.counts) (sym same) finished

  -- a release leaves the order as it is
  pub release_runs : (handed : List Row) → Released core handed next → IsRunning scene limits next
  release_runs handed is = record {
    order = run.order;
    is_after = record {
      is_scene = is.same_scene ∙ run.is_after.is_scene;
      are_limits = is.same_limits ∙ run.is_after.are_limits;
      lawful = run.is_after.lawful;
      are_counts = is.same_counts ∙ run.is_after.are_counts;
    };
    begins = is.begins;
  }

  pub release_done : (handed : List Row) → Released core handed next → AllFinished core.scene core.counts → HasRun scene limits next
  release_done handed is finished =
      let after : IsRunning scene limits next = release_runs handed is in
      let G : Scene → Type 0 = λ x. AllFinished x next.counts in
      let H : Counts → Type 0 = λ x. AllFinished core.scene x in
      record {
        order = after.order;
        is_done = done_after scene limits after.order next after.is_after (subst G (sym is.same_scene) (subst H (sym is.same_counts) finished));
        all_out = is.all finished ∙ ap (λ (s : Scene). rows s (history s)) run.is_after.is_scene;
      }

-- ---- the beginning

module _ (scene : Scene) (limits : List ℕ) (core : CoreView) (is : core ≡ opened scene limits) where
  pub opened_runs : length limits ≡ length scene.links → IsRunning scene core.limits core
  opened_runs counted = record {
    order = [];
    is_after = subst (λ (l : List ℕ). IsAfter scene l [] core) (sym (ap (λ (x : CoreView). x.limits) is)) (opened_after scene limits core counted is);
    begins = subst BeginsLog (sym is) (begins_opened scene limits);
  }

  -- the text of no rows is the header
  pub text_opened : text_out core ≡ header
  unfolding text_of
  text_opened = ap (λ (x : CoreView). header ++ flat_map (line_of x.scene) (rows_out x)) is ∙ ap (λ (l : List Row). header ++ flat_map (line_of scene) l) (none_opened scene limits) ∙ append-nil header

  pub header_taken : (before after : Option (List ℕ)) → Took before header after → Took before (text_out core) after
  header_taken before after took = subst (λ (l : List ℕ). Took before l after) (sym text_opened) took

pub header_prefix : (scene : Scene) (before after : Option (List ℕ)) → TookPrefix before header after → TookPrefix before (log_of scene) after
unfolding log_of text_of
header_prefix scene before after prefix = TookPrefix-front before after header (flat_map (line_of scene) (rows scene (history scene))) prefix

-- ---- texts

module _ (scene : Scene) (core next : CoreView) (of : core.scene ≡ scene) where
  -- the text that was written is a first part of the log
  pub text_begins : BeginsLog core → (rest : List ℕ) × (log_of scene ≡ text_out core ++ rest)
  unfolding text_of log_of
  text_begins begins = (
    flat_map (line_of scene) begins.0,
    ap (λ (l : List Row). header ++ flat_map (line_of scene) l) (sym (ap (λ (s : Scene). rows s (history s)) of) ∙ sym begins.1)
        ∙ ap (λ (l : List ℕ). header ++ l) (flat_map-append (line_of scene) (rows_out core) begins.0)
        ∙ sym (append_assoc header (flat_map (line_of scene) (rows_out core)) (flat_map (line_of scene) begins.0))
        ∙ ap (λ (s : Scene). (header ++ flat_map (line_of s) (rows_out core)) ++ flat_map (line_of scene) begins.0) (sym of),
  )

  -- the lines of what is handed out come behind it
  pub text_more : (handed : List Row) → Released core handed next → text_out next ≡ text_out core ++ flat_map (line_of scene) handed
  unfolding text_of
  text_more handed is =
      ap (λ (s : Scene). header ++ flat_map (line_of s) (rows_out next)) (is.same_scene ∙ of)
      ∙ ap (λ (l : List Row). header ++ flat_map (line_of scene) l) is.behind
      ∙ ap (λ (l : List ℕ). header ++ l) (flat_map-append (line_of scene) (rows_out core) handed)
      ∙ sym (append_assoc header (flat_map (line_of scene) (rows_out core)) (flat_map (line_of scene) handed))
      ∙ ap (λ (s : Scene). (header ++ flat_map (line_of s) (rows_out core)) ++ flat_map (line_of scene) handed) (sym of)

  -- it can be written
  pub handed_writable : (handed : List Row) → IsFaultless scene → Released core handed next → list_all (is_writable scene) handed ≡ true
  handed_writable handed faultless is =
      let begins : BeginsLog next = is.begins in
      let all : list_all (is_writable scene) (rows scene (history scene)) ≡ true = rows_writable scene (history scene) (history_written scene faultless) in
      let split : rows scene (history scene) ≡ (rows_out core ++ handed) ++ begins.0 = sym (ap (λ (s : Scene). rows s (history s)) (is.same_scene ∙ of)) ∙ sym begins.1 ∙ ap (λ (l : List Row). l ++ begins.0) is.behind in
      let first : (list_all (is_writable scene) (rows_out core ++ handed) && list_all (is_writable scene) begins.0) ≡ true = sym (list_all-append (is_writable scene) (rows_out core ++ handed) begins.0) ∙ ap (list_all (is_writable scene)) (sym split) ∙ all in
      let parts : (list_all (is_writable scene) (rows_out core) && list_all (is_writable scene) handed) ≡ true = sym (list_all-append (is_writable scene) (rows_out core) handed) ∙ (and_parts _ _ first).0 in
      (and_parts _ _ parts).1

-- all was handed out
pub text_all : (scene : Scene) (core : CoreView) → core.scene ≡ scene → rows_out core ≡ rows scene (history scene) → text_out core ≡ log_of scene
unfolding log_of
text_all scene core of all = ap (λ (s : Scene). text_of s (rows_out core)) of ∙ ap (text_of scene) all

-- ---- what the sink took

module _ (scene : Scene) (core next : CoreView) (of : core.scene ≡ scene) (handed : List Row) (is : Released core handed next) where
  next_of : next.scene ≡ scene
  next_of = is.same_scene ∙ of

  -- the lines of what was handed out
  pub took_more : (before between after : Option (List ℕ)) → Took before (text_out core) between → Took between (flat_map (line_of scene) handed) after → Took before (text_out next) after
  took_more before between after first second = subst (λ (l : List ℕ). Took before l after) (sym (text_more scene core next of handed is)) (Took-append before between after (text_out core) (flat_map (line_of scene) handed) first second)

  -- or a prefix of them
  pub took_part : (before between after : Option (List ℕ)) → Took before (text_out core) between → TookPrefix between (flat_map (line_of scene) handed) after → TookPrefix before (log_of scene) after
  took_part before between after first second =
      let begins = text_begins scene next next next_of is.begins in
      subst (λ (l : List ℕ). TookPrefix before l after) (sym begins.1)
      (TookPrefix-front before after (text_out next) begins.0
      (subst (λ (l : List ℕ). TookPrefix before l after) (sym (text_more scene core next of handed is))
      (TookPrefix-behind before between after (text_out core) (flat_map (line_of scene) handed) first second)))

  -- the whole log, where nothing is left to do
  pub took_all : (before after : Option (List ℕ)) → AllFinished core.scene core.counts → Took before (text_out next) after → Took before (log_of scene) after
  took_all before after finished took =
      let all : rows_out next ≡ rows scene (history scene) = is.all finished ∙ ap (λ (s : Scene). rows s (history s)) of in
      subst (λ (l : List ℕ). Took before l after) (text_all scene next next_of all) took

-- what was written so far is a prefix
pub took_begins : (scene : Scene) (core : CoreView) → core.scene ≡ scene → BeginsLog core → (before after : Option (List ℕ)) → Took before (text_out core) after → TookPrefix before (log_of scene) after
took_begins scene core of begins before after took =
    let first = text_begins scene core core of begins in
    subst (λ (l : List ℕ). TookPrefix before l after) (sym first.1) (TookPrefix-front before after (text_out core) first.0 (TookPrefix-whole before after (text_out core) took))

-- what follows on Ok
pub on_ok : {T E P Q : Type 0} (r : Result T E) → (P → Q) → OnOk r P → OnOk r Q
on_ok (Ok x) more is = more is
on_ok (Err e) more is = tt

pub on_both : {T E P Q S : Type 0} (r : Result T E) → (P → Q → S) → OnOk r P → OnOk r Q → OnOk r S
on_both (Ok x) more p q = more p q
on_both (Err e) more p q = tt
