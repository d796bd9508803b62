-- What was taken of a text, and what of it is on a page still.
use Rattle.std.specs.Prelude.{ℕ, ◌≡◌, List, ◌++◌, Option}
use Rattle.music_base.specs.Outside.{Took}

-- the sink took all of the text but the rest at its end
pub record TookAllBut (before : Option (List ℕ)) (text rest : List ℕ) (after : Option (List ℕ)) : Type 0 where
  pub front : List ℕ
  pub split : text ≡ front ++ rest
  pub took : Took before front after
