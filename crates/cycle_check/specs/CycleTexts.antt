-- The text of a cycle of waits.
use Rattle.std.specs.Prelude.{ℕ, ◌+◌, ◌<◌, List, [], ◌++◌, map, slice_index_or, codes}
use Rattle.std.specs.Fmt.{decimal, signed_decimal}
use Rattle.std.specs.List.{flat_map}
use Rattle.scene_model.specs.Cover.{allowances, burdens}
use Rattle.music_base.specs.Lines.{ended}
use Rattle.scene_model.specs.declared.scene.AppDecl.{AppDecl}
use Rattle.scene_model.specs.declared.scene.Scene.{Scene}
use Rattle.scene_model.specs.declared.wait.Wait.{Wait}
use Rattle.scene_model.specs.declared.wait.WaitKind.{WaitKind}
use Rattle.scene_model.specs.declared.wait.WaitKind.TheVariants.{ForBlock, ForRoom}

-- a wait of one of n applications for one of them
pub record IsBetween (n : ℕ) (w : Wait) : Type 0 where
  pub waiter : w.waiter < n
  pub awaited : w.awaited < n

-- the names of the applications of a scene, in their order
abbrev pub names_of : Scene → List (List ℕ)
names_of scene = map (λ (app : AppDecl). app.name) scene.apps

-- ---- the line of a wait

-- the name of application a
abbrev pub name_at : List (List ℕ) → ℕ → List ℕ
name_at names a = slice_index_or names a []

-- who waits for whom
abbrev pub ends_text : List (List ℕ) → Wait → List ℕ
ends_text names w = name_at names w.waiter ++ codes " waits for " ++ name_at names w.awaited

-- what is waited for
abbrev pub kind_word : WaitKind → List ℕ
kind_word ForBlock = codes "data"
kind_word ForRoom = codes "room"

-- over which connection, counted from 1, and for what
abbrev pub link_text : ℕ → WaitKind → List ℕ
link_text c kind = codes ": connection " ++ decimal (c + 1) ++ codes ", " ++ kind_word kind

unfoldable pub wait_line : List (List ℕ) → Wait → List ℕ
wait_line names w =
    ends_text names w
    ++ link_text w.link w.kind
    ++ codes ", allowance "
    ++ signed_decimal w.allowance
    ++ codes ", burden "
    ++ signed_decimal w.burden

-- ---- the text

-- the two sums
unfoldable pub sums_line : List Wait → List ℕ
sums_line cycle = codes "allowances " ++ signed_decimal (allowances cycle) ++ codes ", burdens " ++ signed_decimal (burdens cycle)

-- a head, a line for each wait, and the sums, of applications of these names
unfoldable pub cycle_text : List (List ℕ) → List Wait → List ℕ
cycle_text names cycle = ended (codes "uncovered cycle") ++ flat_map (λ w. ended (wait_line names w)) cycle ++ ended (sums_line cycle)
