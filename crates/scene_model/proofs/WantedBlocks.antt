-- How many blocks some step of a receiver wants, from the last of its steps.
use Rattle.std.proofs.Common.{◌≡◌, ℕ, suc, ◌*◌, ap, ◌∙◌, sym, add-one}
use Rattle.std.specs.Prelude.{int_lt, pos, ◌+ℤ◌}
use Rattle.music_base.specs.Numbers.{count_below}
use Rattle.music_base.specs.Wants.{wanted as wanted_by}
use Rattle.scene_model.specs.Clocks.{allowance, steps, tick, wanted, wanted_before, wanted_blocks}
use Rattle.scene_model.specs.Scenes.{receiver, sender}
use Rattle.scene_model.specs.declared.scene.Scene.{Scene}

-- a step of the receiver wants so many blocks
pub wanted_is : (scene : Scene) (c j : ℕ) →
    wanted scene c j ≡ wanted_by (tick scene (sender scene c)) (allowance scene c) (tick scene (receiver scene c)) (steps scene (sender scene c)) j
unfolding wanted wanted_by
wanted_is scene c j =
    ap (λ (n : ℕ). count_below (steps scene (sender scene c)) (λ k. int_lt (pos (k * tick scene (sender scene c)) +ℤ allowance scene c) (pos (n * tick scene (receiver scene c)))))
    (sym (add-one j))

-- without a step nothing is wanted
pub wanted_blocks-none : (scene : Scene) (c : ℕ) → steps scene (receiver scene c) ≡ 0 → 0 ≡ wanted_blocks scene c
wanted_blocks-none scene c none = ap (wanted_before scene c) (sym none)

-- what the last step wants is all that is wanted
pub wanted_blocks-last : (scene : Scene) (c last : ℕ) → steps scene (receiver scene c) ≡ suc last →
    wanted_by (tick scene (sender scene c)) (allowance scene c) (tick scene (receiver scene c)) (steps scene (sender scene c)) last ≡ wanted_blocks scene c
wanted_blocks-last scene c last some = sym (wanted_is scene c last) ∙ ap (wanted_before scene c) (sym some)
