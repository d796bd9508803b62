-- Rank maps one after the other, up to the first whose list has an index twice.
use Rattle.std.proofs.Common.{◌≡◌, ℕ, suc, ◌<◌, List, [], ◌∷◌, ◌++◌, length, take, drop, get_or, refl, ap, ◌∙◌}
use Rattle.std.specs.Prelude.{Option, Some, None, map}
use Rattle.std.specs.Option.{option_or}
use Rattle.std.proofs.Math.Seq.{split_at}
use Rattle.std.proofs.lemmas.List.{map-append, map-id}
use Rattle.text_words.specs.Options.{first_some}
use Rattle.index_maps.specs.Repeats.{IsRepeatOf}
use Rattle.index_maps.specs.declared.map.IndexMap.{IndexMap}
use Rattle.index_maps.specs.declared.permuting.MapFault.{MapFault}
use Rattle.index_maps.specs.declared.permuting.MapFault.TheVariants.{Repeated, Memory}
use Rattle.port_table.specs.MapWords.{rank_repeat}

abbrev Maps : Type 0
Maps = List IndexMap

first_of_two : (o first both more : Option ℕ) → (first ≡ None → both ≡ more) → option_or o first ≡ None → option_or o both ≡ more
first_of_two None first both more on none = on none
first_of_two (Some index) first both more on none = absurd cc

first_some-append : (maps more : Maps) → first_some rank_repeat maps ≡ None → first_some rank_repeat (maps ++ more) ≡ first_some rank_repeat more
first_some-append [] more none = refl
first_some-append (map ∷ maps) more none =
    first_of_two (rank_repeat map) (first_some rank_repeat maps) (first_some rank_repeat (maps ++ more)) (first_some rank_repeat more) (first_some-append maps more) none

-- with one more that repeats none
pub once_on : (before : Maps) (here : IndexMap) → first_some rank_repeat before ≡ None → rank_repeat here ≡ None → first_some rank_repeat (before ++ here ∷ []) ≡ None
once_on before here once none = first_some-append before (here ∷ []) once ∙ rw none refl

repeat_behind : (before : Maps) (here : IndexMap) (more : Maps) (fault : MapFault) → first_some rank_repeat before ≡ None → IsRepeatOf (rank_repeat here) fault
    → IsRepeatOf (first_some rank_repeat (before ++ here ∷ more)) fault
repeat_behind before here more Memory once is = tt
repeat_behind before here more (Repeated index) once is = rw (first_some-append before (here ∷ more) once, is) refl

-- the first repeat of a list of ranks stands where those before it repeat none
module _ {A : Type 0} (stated : A → IndexMap) where
  pub repeat_at : (ranks before : List A) (here : A) (fault : MapFault) → map (λ x. x) before ≡ take (length before) ranks → (length before < length ranks) × (here ≡ get_or ranks (length before) here)
      → first_some rank_repeat (map stated before) ≡ None → IsRepeatOf (rank_repeat (stated here)) fault → IsRepeatOf (first_some rank_repeat (map stated ranks)) fault
  repeat_at ranks before here fault front place once is =
      let n : ℕ = length before in
      let parts : ranks ≡ before ++ here ∷ drop (suc n) ranks =
      rw (← front, map-id before, ← place.1) at (split_at ranks n here place.0) in
      let stated_parts : map stated ranks ≡ map stated before ++ stated here ∷ map stated (drop (suc n) ranks) =
      ap (map stated) parts ∙ map-append stated before (here ∷ drop (suc n) ranks) in
      rw stated_parts (repeat_behind (map stated before) (stated here) (map stated (drop (suc n) ranks)) fault once is)
