-- Orders, one act longer, and their texts.
use Rattle.std.proofs.Common.{ℕ, ℤ, IsErr, Result, OnOk, Ok, Err, ◌+◌, ◌<◌, ◌≤◌, ◌≡◌, ◌⊎◌, inl, inr, refl, sym, ◌∙◌, ap, subst, arith, List, [], ◌∷◌, ◌++◌, length, Option, append_assoc, append-nil, None, Some}
use Rattle.std.specs.List.{flat_map}
use Rattle.std.proofs.lemmas.List.Concat.{flat_map-append}
use Rattle.music_base.specs.Outside.{Took, TookPrefix}
use Rattle.music_base.proofs.Transfers.{Took-append, TookPrefix-front, TookPrefix-behind, TookPrefix-nothing, TookPrefix-whole}
use Rattle.scene_model.specs.declared.scene.Scene.{Scene}
use Rattle.scene_model.specs.declared.act.Act.{Act}
use Rattle.scene_model.specs.declared.act.Act.TheVariants.{Put, Run, Take}
use Rattle.scene_model.specs.Faults.{IsFaultless}
use Rattle.scene_model.specs.Orders.{AllFinished, Counts, IsAllowed, IsLawful, IsLawfulFrom, IsLive, IsSound, SomeAllowed, after, after_all, opening_counts}
use Rattle.scene_model.specs.Waits.{Fits}
use Rattle.scene_model.proofs.Enabled.{enabled, live}
use Rattle.scene_model.proofs.Finish.{can_finish, left_of, takes_one}
use Rattle.scene_model.proofs.SceneWaits.{fits_each_passes}
use Rattle.scene_model.proofs.WellFormedScenes.{well_formed}
use Rattle.act_orders.specs.declared.ledger.Ledger.{Ledger}
use Rattle.act_orders.specs.Finished.{IsFinishedOrder, WroteAllBut, WroteOrder}
use Rattle.act_orders.specs.Ledgers.{Allows, IsAfter, IsLedger, counts_in}
use Rattle.act_orders.specs.OrderTexts.{act_line, order_text}
use Rattle.act_orders.specs.Pages.{TookAllBut}

-- ---- lawful orders

lawful-more : (scene : Scene) (limits : List ℕ) (acts : List Act) (act : Act) (s : Counts) → IsLawfulFrom scene limits s acts → IsAllowed scene limits (after_all s acts) act → IsLawfulFrom scene limits s (acts ++ act ∷ [])
lawful-more scene limits [] act s lawful can = (can, tt)
lawful-more scene limits (x ∷ xs) act s lawful can = (lawful.0, lawful-more scene limits xs act (after s x) lawful.1 can)

after-more : (acts : List Act) (act : Act) (s : Counts) → after_all s (acts ++ act ∷ []) ≡ after (after_all s acts) act
after-more [] act s = refl
after-more (x ∷ xs) act s = after-more xs act (after s x)

module _ (scene : Scene) (limits : List ℕ) (acts : List Act) (x : Ledger) (so_far : IsAfter scene limits acts x) (act : Act) (can : Allows scene x act) where
  can-here : IsAllowed scene limits (after_all (opening_counts scene) acts) act
  can-here = subst (λ (ls : List ℕ). IsAllowed scene ls (after_all (opening_counts scene) acts) act) so_far.limits_are (subst (λ (s : Counts). IsAllowed scene x.limits.items s act) so_far.counts_are can)

  pub after_act_is : (y : Ledger) → IsLedger scene y → y.limits.items ≡ x.limits.items → counts_in y ≡ after (counts_in x) act → IsAfter scene limits (acts ++ act ∷ []) y
  after_act_is y kept same counts = record {
    kept = kept;
    limits_are = same ∙ so_far.limits_are;
    lawful = (so_far.lawful.0, lawful-more scene limits acts act (opening_counts scene) so_far.lawful.1 can-here);
    counts_are = counts ∙ ap (λ (s : Counts). after s act) so_far.counts_are ∙ sym (after-more acts act (opening_counts scene));
  }

  pub one_less_left : (y : Ledger) → counts_in y ≡ after (counts_in x) act → left_of scene (counts_in x) ≡ left_of scene (counts_in y) + 1
  one_less_left y counts = takes_one scene x.limits.items (counts_in x) so_far.kept.sound act can ∙ ap (λ (s : Counts). left_of scene s + 1) (sym counts)

-- ---- finished orders

module _ (scene : Scene) (faultless : IsFaultless scene) (limits : List ℕ) (planned : (potentials : List ℤ) × Fits scene limits potentials) where
  -- where no act is allowed, all applications are finished
  pub all_done : (x : Ledger) (acts : List Act) → IsAfter scene limits acts x → ((act : Act) → Allows scene x act → ⊥) → IsFinishedOrder scene limits acts
  all_done x acts so_far none = record { lawful = so_far.lawful; finished = subst (AllFinished scene) so_far.counts_are (go (enabled scene (well_formed scene faultless) limits planned.0 (fits_each_passes scene limits planned.0 planned.1) (counts_in x) (subst (λ (ls : List ℕ). IsSound scene ls (counts_in x)) so_far.limits_are so_far.kept.sound))) }
    where
      go : SomeAllowed scene limits (counts_in x) ⊎ AllFinished scene (counts_in x) → AllFinished scene (counts_in x)
      go (inl (act, can)) = absurd (none act (subst (λ (ls : List ℕ). IsAllowed scene ls (counts_in x) act) (sym so_far.limits_are) can))
      go (inr all) = all

  is_live : IsLive scene limits
  is_live = live scene (well_formed scene faultless) limits planned.0 planned.1.limits_counted (fits_each_passes scene limits planned.0 planned.1)

  -- a lawful order goes on to a finished one
  pub goes_on : (acts : List Act) → IsLawful scene limits acts → (more : List Act) × IsFinishedOrder scene limits (acts ++ more)
  goes_on acts lawful = let found = can_finish scene limits is_live acts lawful in (found.0, record { lawful = found.1; finished = found.2 })

  -- and what the sink took of its text is the beginning of that one's
  pub goes_on_from : (acts : List Act) → IsLawful scene limits acts → (before now : Option (List ℕ)) → TookPrefix before (order_text scene acts) now → (all : List Act) × IsFinishedOrder scene limits all × TookPrefix before (order_text scene all) now
  goes_on_from acts lawful before now prefix =
      let found = goes_on acts lawful in
      (acts ++ found.0, found.1, rw (flat_map-append (act_line scene) acts found.0) (TookPrefix-front before now (order_text scene acts) (order_text scene found.0) prefix))

-- ---- what a sink took of a text

took_nothing : (before : Option (List ℕ)) → Took before [] before
took_nothing before = elim before as (λ b. Took b [] b) [ None ↦ refl | Some taken ↦ ap (λ l. Some l) (sym (append-nil taken)) ]

pub nothing_but : (before : Option (List ℕ)) (page : List ℕ) → TookAllBut before page page before
nothing_but before page = record { front = []; split = refl; took = took_nothing before }

-- of a text of which all but a page was taken, and then all but the end of the page with more behind it
pub more_but : (before between after : Option (List ℕ)) (text page line rest : List ℕ) → TookAllBut before text page between → TookAllBut between (page ++ line) rest after → TookAllBut before (text ++ line) rest after
more_but before between after text page line rest first then = record {
  front = first.front ++ then.front;
  split = ap (λ (t : List ℕ). t ++ line) first.split ∙ append_assoc first.front page line ∙ ap (λ (t : List ℕ). first.front ++ t) then.split ∙ sym (append_assoc first.front then.front rest);
  took = Took-append before between after first.front then.front first.took then.took;
}

pub more_prefix : (before between after : Option (List ℕ)) (text page line : List ℕ) → TookAllBut before text page between → TookPrefix between (page ++ line) after → TookPrefix before (text ++ line) after
more_prefix before between after text page line first prefix =
    rw (ap (λ (t : List ℕ). t ++ line) first.split ∙ append_assoc first.front page line) (TookPrefix-behind before between after first.front (page ++ line) first.took prefix)

pub all_but_prefix : (before after : Option (List ℕ)) (text page : List ℕ) → TookAllBut before text page after → TookPrefix before text after
all_but_prefix before after text page first = rw first.split (TookPrefix-front before after first.front page (TookPrefix-whole before after first.front first.took))

-- the page is written too
pub all_and_page : (before between after : Option (List ℕ)) (text page : List ℕ) → TookAllBut before text page between → Took between page after → Took before text after
all_and_page before between after text page first took = rw first.split (Took-append before between after first.front page first.took took)

pub page_prefix : (before between after : Option (List ℕ)) (text page : List ℕ) → TookAllBut before text page between → TookPrefix between page after → TookPrefix before text after
page_prefix before between after text page first prefix = rw first.split (TookPrefix-behind before between after first.front page first.took prefix)

-- ---- the loop

-- acts were entered, and all of their text was taken but the page
pub record WroteSoFar (scene : Scene) (limits : List ℕ) (x : Ledger) (page : List ℕ) (before now : Option (List ℕ)) : Type 0 where
  pub acts : List Act
  pub is_after : IsAfter scene limits acts x
  pub wrote : TookAllBut before (order_text scene acts) page now

one_line_more : (scene : Scene) (acts : List Act) (act : Act) → order_text scene (acts ++ act ∷ []) ≡ order_text scene acts ++ act_line scene act
one_line_more scene acts act = flat_map-append (act_line scene) acts (act ∷ []) ∙ ap (λ (t : List ℕ). order_text scene acts ++ t) (append-nil (act_line scene act))

module _ (scene : Scene) (limits : List ℕ) (x : Ledger) (page : List ℕ) (before now : Option (List ℕ)) (so_far : WroteSoFar scene limits x page before now) where
  module _ (act : Act) (can : Allows scene x act) where
    pub wrote_more : (y : Ledger) (rest : List ℕ) (then : Option (List ℕ)) → IsLedger scene y → y.limits.items ≡ x.limits.items → counts_in y ≡ after (counts_in x) act → TookAllBut now (page ++ act_line scene act) rest then → WroteSoFar scene limits y rest before then
    wrote_more y rest then kept same counts took = record {
      acts = so_far.acts ++ act ∷ [];
      is_after = after_act_is scene limits so_far.acts x so_far.is_after act can y kept same counts;
      wrote = rw (one_line_more scene so_far.acts act) (more_but before now then (order_text scene so_far.acts) page (act_line scene act) rest so_far.wrote took);
    }

    pub less_left : (y : Ledger) → counts_in y ≡ after (counts_in x) act → left_of scene (counts_in x) ≡ left_of scene (counts_in y) + 1
    less_left = one_less_left scene limits so_far.acts x so_far.is_after act can

    -- a prefix of this line too
    pub stopped : IsFaultless scene → (planned : (potentials : List ℤ) × Fits scene limits potentials) → (then : Option (List ℕ)) → TookPrefix now (page ++ act_line scene act) then → (all : List Act) × IsFinishedOrder scene limits all × TookPrefix before (order_text scene all) then
    stopped faultless planned then prefix =
        let lawful : IsLawful scene limits (so_far.acts ++ act ∷ []) = (so_far.is_after.lawful.0, lawful-more scene limits so_far.acts act (opening_counts scene) so_far.is_after.lawful.1 (can-here scene limits so_far.acts x so_far.is_after act can)) in
        goes_on_from scene faultless limits planned (so_far.acts ++ act ∷ []) lawful before then (rw (one_line_more scene so_far.acts act) (more_prefix before now then (order_text scene so_far.acts) page (act_line scene act) so_far.wrote prefix))

-- ---- how the loop ends

module _ (scene : Scene) (faultless : IsFaultless scene) (limits : List ℕ) (planned : (potentials : List ℤ) × Fits scene limits potentials) where
  pub begun : (x : Ledger) → IsAfter scene limits [] x → (page : List ℕ) → page ≡ [] → (before : Option (List ℕ)) → WroteSoFar scene limits x page before before
  begun x opened page empty before = record { acts = []; is_after = opened; wrote = rw empty (nothing_but before []) }

  module _ {T E : Type 0} where
    -- no act is left
    pub ended : (x : Ledger) (page : List ℕ) (before now : Option (List ℕ)) → WroteSoFar scene limits x page before now → ((act : Act) → Allows scene x act → ⊥) → (value : T) → WroteAllBut {T = T} {E = E} scene limits page before now (Ok value)
    ended x page before now so_far none value = record {
      acts = so_far.acts;
      is_order = all_done scene faultless limits planned x so_far.acts so_far.is_after none;
      all = so_far.wrote;
      prefix = all_but_prefix before now (order_text scene so_far.acts) page so_far.wrote;
    }

    -- an act was begun, and a fault came
    pub broken : (x : Ledger) (page rest : List ℕ) (before now then : Option (List ℕ)) → WroteSoFar scene limits x page before now → (act : Act) → Allows scene x act → TookPrefix now (page ++ act_line scene act) then → (result : Result T E) → IsErr result → WroteAllBut {T = T} {E = E} scene limits rest before then result
    broken x page rest before now then so_far act can prefix (Err fault) is_err =
        let all = stopped scene limits x page before now so_far act can faultless planned then prefix in
        record { acts = all.0; is_order = all.1; all = tt; prefix = all.2 }
    broken x page rest before now then so_far act can prefix (Ok value) is_err = cc

    -- nothing was tried
    pub not_begun : (before : Option (List ℕ)) (fault : E) → WroteOrder {T = T} {E = E} scene limits before before (Err fault)
    not_begun before fault =
        let all = goes_on scene faultless limits planned [] (planned.1.limits_counted, tt) in
        record { acts = all.0; is_order = all.1; all = tt; prefix = TookPrefix-nothing before (order_text scene all.0) }

    pub stopped_there : (page : List ℕ) (before now : Option (List ℕ)) (fault : E) → WroteAllBut {T = T} {E = E} scene limits page before now (Err fault) → WroteOrder {T = T} {E = E} scene limits before now (Err fault)
    stopped_there page before now fault so_far = record { acts = so_far.acts; is_order = so_far.is_order; all = tt; prefix = so_far.prefix }

on_ok : {T E : Type 0} (r : Result T E) (P Q : Type 0) → (P → Q) → OnOk r P → OnOk r Q
on_ok (Ok v) P Q f p = f p
on_ok (Err e) P Q f p = tt

-- all acts were done, and the page is written
pub written : {T E U F : Type 0} (scene : Scene) (limits page : List ℕ) (before between after : Option (List ℕ)) (value : U) (result : Result T E)
    → WroteAllBut {T = U} {E = F} scene limits page before between (Ok value) → OnOk result (Took between page after) → TookPrefix between page after → WroteOrder scene limits before after result
written scene limits page before between after value result so_far all prefix = record {
  acts = so_far.acts;
  is_order = so_far.is_order;
  all = on_ok result _ _ (all_and_page before between after (order_text scene so_far.acts) page so_far.all) all;
  prefix = page_prefix before between after (order_text scene so_far.acts) page so_far.all prefix;
}
