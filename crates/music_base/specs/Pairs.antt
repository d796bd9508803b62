-- Two lists side by side.
use Rattle.std.specs.Prelude.{List, [], ◌∷◌}

-- the lists are of one length, and P holds of what stands at each place of both
abbrev pub AllPaired : {X Y : Type 0} → (X → Y → Type 0) → List X → List Y → Type 0
AllPaired P [] [] = Unit {0}
AllPaired P [] (y ∷ ys) = ⊥
AllPaired P (x ∷ xs) [] = ⊥
AllPaired P (x ∷ xs) (y ∷ ys) = P x y × AllPaired P xs ys
