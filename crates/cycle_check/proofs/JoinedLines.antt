-- Lines that are made piece by piece.
use Rattle.std.proofs.Common.{◌≡◌, ℕ, ◌+◌, ◌<◌, List, [], ◌∷◌, ◌++◌, length, take, get_or, append_assoc, append-nil}
use Rattle.std.specs.List.{flat_map}
use Rattle.std.proofs.lemmas.List.{take_more}
use Rattle.std.proofs.lemmas.List.Concat.{flat_map-append}
use Rattle.scene_model.specs.declared.wait.Wait.{Wait}
use Rattle.music_base.specs.Lines.{ended}

pub joined_ends : (text waiter a awaited : List ℕ) → ((text ++ waiter) ++ a) ++ awaited ≡ text ++ ((waiter ++ a) ++ awaited)
joined_ends text waiter a awaited = simp append_assoc

pub joined_link : (text a x b kind : List ℕ) → (((text ++ a) ++ x) ++ b) ++ kind ≡ text ++ (((a ++ x) ++ b) ++ kind)
joined_link text a x b kind = simp append_assoc

pub joined_wait : (text ends link a x b y end : List ℕ) →
    ((((text ++ ends) ++ link) ++ (a ++ x)) ++ (b ++ y)) ++ end ≡ text ++ ((((((ends ++ link) ++ a) ++ x) ++ b) ++ y) ++ end)
joined_wait text ends link a x b y end = simp append_assoc

pub joined_sums : (text a x b y end : List ℕ) → ((text ++ (a ++ x)) ++ (b ++ y)) ++ end ≡ text ++ ((((a ++ x) ++ b) ++ y) ++ end)
joined_sums text a x b y end = simp append_assoc

-- the line of one wait more
pub one_line_more : (line : Wait → List ℕ) (head : List ℕ) (ws : List Wait) (i : ℕ) (w : Wait) → i < length ws → w ≡ get_or ws i w
    → (head ++ flat_map (λ v. ended (line v)) (take i ws)) ++ ended (line w) ≡ head ++ flat_map (λ v. ended (line v)) (take (i + 1) ws)
one_line_more line head ws i w lt is =
    rw (take_more ws i w lt, ← is, flat_map-append (λ v. ended (line v)) (take i ws) (w ∷ []), append-nil (ended (line w)))
    (append_assoc head (flat_map (λ v. ended (line v)) (take i ws)) (ended (line w)))
