-- Rows that are written batch by batch.
use Rattle.std.proofs.Common.{◌≡◌, ℕ, List, [], ◌∷◌, ◌++◌, length, take, drop, true, ◌&&◌, refl, sym, ap, ◌∙◌, append-nil, append_assoc, None, Some, arith}
use Rattle.std.specs.Prelude.{Option}
use Rattle.std.specs.List.{flat_map, list_all}
use Rattle.std.proofs.lemmas.Bool.{and_parts}
use Rattle.std.proofs.lemmas.List.{take-append-drop}
use Rattle.std.proofs.lemmas.List.Concat.{flat_map-append}
use Rattle.std.proofs.lemmas.List.Folds.{list_all-append}
use Rattle.music_base.specs.Outside.{Took, TookPrefix}
use Rattle.music_base.proofs.Transfers.{Took-append, TookPrefix-front, TookPrefix-behind, TookPrefix-whole}
use Rattle.scene_model.specs.Logs.{line_of, is_writable}
use Rattle.scene_model.specs.declared.scene.Scene.{Scene}
use Rattle.scene_model.specs.declared.row.Row.{Row}

abbrev pub lines : Scene → List Row → List ℕ
lines scene rows = flat_map (line_of scene) rows

-- of these rows the lines of those in front of the rest were taken, and the rest can be written
pub record IsWrittenTo (scene : Scene) (rows rest : List Row) (before after : Option (List ℕ)) : Type 0 where
  pub front : List Row
  pub split : rows ≡ front ++ rest
  pub took : Took before (lines scene front) after
  pub writable : list_all (is_writable scene) rest ≡ true

took_nothing : (before : Option (List ℕ)) → Took before [] before
took_nothing before = elim before as (λ b. Took b [] b) [ None ↦ refl | Some taken ↦ ap (λ l. Some l) (sym (append-nil taken)) ]

pub none_written : (scene : Scene) (rows : List Row) (before : Option (List ℕ)) → list_all (is_writable scene) rows ≡ true → IsWrittenTo scene rows rows before before
none_written scene rows before writable = record { front = []; split = refl; took = took_nothing before; writable = writable }

-- ---- one batch more

-- the batch and what comes later can both be written
pub writable_parts : (scene : Scene) (batch : ℕ) (rest : List Row) → list_all (is_writable scene) rest ≡ true
    → (list_all (is_writable scene) (take batch rest) ≡ true) × (list_all (is_writable scene) (drop batch rest) ≡ true)
writable_parts scene batch rest writable =
    let parts : (list_all (is_writable scene) (take batch rest) && list_all (is_writable scene) (drop batch rest)) ≡ true =
    sym (list_all-append (is_writable scene) (take batch rest) (drop batch rest)) ∙ ap (list_all (is_writable scene)) (take-append-drop batch rest) ∙ writable in
    and_parts _ _ parts

regrouped : (rows rest front : List Row) (batch : ℕ) → rows ≡ front ++ rest → rows ≡ (front ++ take batch rest) ++ drop batch rest
regrouped rows rest front batch split = split ∙ ap (λ xs. front ++ xs) (sym (take-append-drop batch rest)) ∙ sym (append_assoc front (take batch rest) (drop batch rest))

pub batch_written : (scene : Scene) (rows rest : List Row) (batch : ℕ) (before between after : Option (List ℕ))
    → IsWrittenTo scene rows rest before between → Took between (lines scene (take batch rest)) after → IsWrittenTo scene rows (drop batch rest) before after
batch_written scene rows rest batch before between after so_far took = record {
  front = so_far.front ++ take batch rest;
  split = regrouped rows rest so_far.front batch so_far.split;
  took = rw (flat_map-append (line_of scene) so_far.front (take batch rest)) (Took-append before between after _ _ so_far.took took);
  writable = (writable_parts scene batch rest so_far.writable).1;
}

-- ---- prefixes and the end

whole : (scene : Scene) (rows rest front : List Row) → rows ≡ front ++ rest → lines scene rows ≡ lines scene front ++ lines scene rest
whole scene rows rest front split = ap (lines scene) split ∙ flat_map-append (line_of scene) front rest

-- what was written so far is a prefix, and so is it with a prefix of a batch
pub written_prefix : (scene : Scene) (rows rest : List Row) (before after : Option (List ℕ)) → IsWrittenTo scene rows rest before after → TookPrefix before (lines scene rows) after
written_prefix scene rows rest before after so_far =
    rw (whole scene rows rest so_far.front so_far.split) (TookPrefix-front before after (lines scene so_far.front) _ (TookPrefix-whole before after _ so_far.took))

pub batch_prefix : (scene : Scene) (rows rest : List Row) (batch : ℕ) (before between after : Option (List ℕ))
    → IsWrittenTo scene rows rest before between → TookPrefix between (lines scene (take batch rest)) after → TookPrefix before (lines scene rows) after
batch_prefix scene rows rest batch before between after so_far prefix =
    let e : lines scene rows ≡ (lines scene so_far.front ++ lines scene (take batch rest)) ++ lines scene (drop batch rest) =
    whole scene rows (drop batch rest) (so_far.front ++ take batch rest) (regrouped rows rest so_far.front batch so_far.split)
    ∙ ap (λ text. text ++ lines scene (drop batch rest)) (flat_map-append (line_of scene) so_far.front (take batch rest)) in
    rw e (TookPrefix-front before after _ _ (TookPrefix-behind before between after (lines scene so_far.front) _ so_far.took prefix))

pub all_written : (scene : Scene) (rows rest : List Row) (before after : Option (List ℕ)) → IsWrittenTo scene rows rest before after → length rest ≡ 0 → Took before (lines scene rows) after
all_written scene rows [] before after so_far none =
    let all : rows ≡ so_far.front = so_far.split ∙ append-nil so_far.front in
    rw all so_far.took
all_written scene rows (row ∷ rest) before after so_far none = absurd (omega arith)
