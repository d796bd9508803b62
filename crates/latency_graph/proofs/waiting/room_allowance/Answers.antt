use Rattle.std.proofs.Common.{◌≡◌, ℕ, ◌+◌, ◌*◌, ◌^◌, ◌<◌, ◌≤◌, ◌∙◌, arith, rules, FitsSigned}
use Rattle.std.proofs.Math.Nat.{mul-le-mul}
use Rattle.std.proofs.lemmas.Int.{ints, to_z-of_z, to_z_pos}
use mir.Syntax.{w128}
use Rattle.scene_model.specs.Limits.{longest_tick}
use Rattle.scene_model.specs.Waits.{greatest_limit}
use Rattle.latency_graph.proofs.waiting.room_allowance.Goals as goal

-- the longest time that a wait for room can count, in ns
time_below : (limit send receive : ℕ) → limit ≤ greatest_limit → send ≤ longest_tick → receive ≤ longest_tick → (limit + 1) * send + receive < 2 ^ 100
time_below limit send receive few short ticks =
    let counted : limit + 1 ≤ greatest_limit + 1 = omega arith in
    let most : (limit + 1) * send ≤ (greatest_limit + 1) * longest_tick = mul-le-mul counted short in
    omega (arith, most)

pub overflow_mul-time : goal.overflow_mul-time
overflow_mul-time c =
    let send : c.from-2.result ≡ c.args.send_tick = c.from-2.ensures ∙ c.send_tick.view_is in
    rw (c.from.ensures, send) (omega (arith, time_below c.args.limit c.args.send_tick 0 c.requires.limit c.requires.send_tick (omega arith)))

pub overflow_add-time-2 : goal.overflow_add-time-2
overflow_add-time-2 c =
    let send : c.from-2.result ≡ c.args.send_tick = c.from-2.ensures ∙ c.send_tick.view_is in
    let receive : c.from-3.result ≡ c.args.receive_tick = c.from-3.ensures ∙ c.receive_tick.view_is in
    rw (c.from.ensures, send, receive) (omega (arith, time_below c.args.limit c.args.send_tick c.args.receive_tick c.requires.limit c.requires.send_tick c.requires.receive_tick))

pub overflow_sub-result : goal.overflow_sub-result
overflow_sub-result c =
    let send : c.from-2.result ≡ c.args.send_tick = c.from-2.ensures ∙ c.send_tick.view_is in
    let receive : c.from-3.result ≡ c.args.receive_tick = c.from-3.ensures ∙ c.receive_tick.view_is in
    let fits : FitsSigned w128 c.args.rounded = search rules in
    let time : ℕ = (c.args.limit + 1) * c.args.send_tick + c.args.receive_tick in
    let below : time < 2 ^ 100 = time_below c.args.limit c.args.send_tick c.args.receive_tick c.requires.limit c.requires.send_tick c.requires.receive_tick in
    rw (c.from.ensures, send, receive, to_z-of_z w128 c.args.rounded fits, to_z_pos w128 time (omega arith)) (omega (arith, ints, below, c.requires.rounded))

pub returns : goal.returns
returns c =
    let send : c.from-2.result ≡ c.args.send_tick = c.from-2.ensures ∙ c.send_tick.view_is in
    let receive : c.from-3.result ≡ c.args.receive_tick = c.from-3.ensures ∙ c.receive_tick.view_is in
    let fits : FitsSigned w128 c.args.rounded = search rules in
    let time : ℕ = (c.args.limit + 1) * c.args.send_tick + c.args.receive_tick in
    let below : time < 2 ^ 100 = time_below c.args.limit c.args.send_tick c.args.receive_tick c.requires.limit c.requires.send_tick c.requires.receive_tick in
    let is = overflow_sub-result c in
    to_z-of_z w128 _ is ∙ rw (c.from.ensures, send, receive, to_z-of_z w128 c.args.rounded fits, to_z_pos w128 time (omega arith))
