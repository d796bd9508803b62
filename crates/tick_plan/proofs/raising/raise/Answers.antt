use Rattle.std.proofs.Common.{◌≡◌, ℕ, ◌<◌, ◌+ℤ◌, pos, slice_index, slice_set, List, ap}
use Rattle.std.specs.List.{Contains}
use Rattle.scene_model.specs.Cover.{IsWithin}
use Rattle.scene_model.specs.declared.wait.Wait.{Wait}
use Rattle.tick_plan.specs.Heights.{rise_of, HaveWalks, IsRising, gap_of}
use Rattle.tick_plan.proofs.Searching.{heights_low, is_one, HaveWalks-raised, gap_of-raised}
use Rattle.tick_plan.proofs.raising.raise.Goals as goal

pub raised_height-requires-clause-few : goal.raised_height-requires-clause-few
raised_height-requires-clause-few g c = c.requires.1.few

pub raised_height-requires-clause-low : goal.raised_height-requires-clause-low
raised_height-requires-clause-low g c = heights_low _ _ _ _ c.requires.1.few c.requires.1.within c.requires.1.walks

walks_after : (n : ℕ) (all : List Wait) (starts : ℕ → ℕ) (heights : List ℕ) (e : Wait) (u height : ℕ) → IsRising n all starts heights → Contains all e × IsWithin n e →
    u ≡ e.waiter → pos height ≡ rise_of n e +ℤ pos (slice_index heights e.awaited) → slice_index heights e.waiter < height →
    HaveWalks n all starts (slice_set heights u height)
walks_after n all starts heights e u height h one u_is is higher =
    rw u_is (HaveWalks-raised n all starts heights e height h.within h.covered h.walks one.1 one.0 is higher)

pub returns-in-Some-clause-walks : goal.returns-in-Some-clause-walks
returns-in-Some-clause-walks g c =
    walks_after _ _ _ _ _ _ _ c.requires.1 (is_one _ _ _ _ c.requires.0 c.requires.1.within c.index-waits-at.is)
    (ap (λ (w : Wait). w.waiter) c.wait.view_is) c.in-Some.ensures.height c.in-Some.ensures.higher

raised_after : (n : ℕ) (all : List Wait) (starts : ℕ → ℕ) (heights : List ℕ) (e : Wait) (u height : ℕ) → IsRising n all starts heights → Contains all e × IsWithin n e →
    u ≡ e.waiter → pos height ≡ rise_of n e +ℤ pos (slice_index heights e.awaited) → slice_index heights e.waiter < height →
    gap_of (slice_set heights u height) < gap_of heights
raised_after n all starts heights e u height h one u_is is higher =
    gap_of-raised n all starts heights e height h.few h.within h.walks.counted one.1.waiter higher (slice_set heights u height) (ap (λ x. slice_set heights x height) u_is)
    (walks_after n all starts heights e u height h one u_is is higher)

pub returns-in-Some-clause-raised : goal.returns-in-Some-clause-raised
returns-in-Some-clause-raised g c =
    raised_after _ _ (slice_index g.starts) _ _ _ _ c.requires.1 (is_one _ _ _ _ c.requires.0 c.requires.1.within c.index-waits-at.is)
    (ap (λ (w : Wait). w.waiter) c.wait.view_is) c.in-Some.ensures.height c.in-Some.ensures.higher
