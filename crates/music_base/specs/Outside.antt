-- What a source has left to give and what a sink took, each where it tells it.
use Rattle.std.specs.Prelude.{◌≡◌, ℕ, ◌≤◌, List, [], ◌++◌, length, take, Option, option_map, IfSome}

-- The source gave these bytes: what it had left before is them, and behind them what it has left after.
abbrev pub Gave : Option (List ℕ) → List ℕ → Option (List ℕ) → Type 0
Gave before bytes after = before ≡ option_map (λ left. bytes ++ left) after

-- The source gave at most so many bytes.
abbrev pub GaveAtMost : ℕ → Option (List ℕ) → Option (List ℕ) → Type 0
GaveAtMost most before after = (bytes : List ℕ) × (Gave before bytes after × (length bytes ≤ most))

-- The source is at its end: it has nothing left.
abbrev pub IsAtEnd : Option (List ℕ) → Type 0
IsAtEnd left = IfSome left (λ bytes. bytes ≡ [])

-- The sink took these bytes, behind what it took before.
abbrev pub Took : Option (List ℕ) → List ℕ → Option (List ℕ) → Type 0
Took before bytes after = after ≡ option_map (λ taken. taken ++ bytes) before

-- The sink took a prefix of these bytes.
abbrev pub TookPrefix : Option (List ℕ) → List ℕ → Option (List ℕ) → Type 0
TookPrefix before bytes after = (n : ℕ) × Took before (take n bytes) after
