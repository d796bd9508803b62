use Rattle.std.proofs.Common.{◌≡◌, ◌<◌, ◌-◌, ℕ, arith, length, length-append, drop, ◌++◌, ◌∷◌, [], List, ap, ◌∙◌}
use Rattle.circular_buffer.specs.Buffer.{Buffer, buffer, keep_last}
use Rattle.music_base.specs.declared.item.Block.{Block}
use Rattle.port_buffers.proofs.ring.RingPutEnd.put.Goals as goal

-- where there is room, what is appended drops nothing
kept : (blocks : List Block) (block : Block) (n : ℕ) → length blocks < n → keep_last n (blocks ++ block ∷ []) ≡ blocks ++ block ∷ []
kept blocks block n room = let none : length (blocks ++ block ∷ []) - n ≡ 0 = omega (arith, length-append blocks (block ∷ [])) in ap (λ (k : ℕ). drop k (blocks ++ block ∷ [])) none

pub returns-then-held-capacity : goal.returns-then-held-capacity
returns-then-held-capacity c =
    let ring : Buffer Block = c.self.inside.blocks in
    let room : length ring.items < ring.capacity = let held = c.len-held.ensures.len in let within = c.capacity.ensures.within.0 in let limit = c.capacity.ensures.capacity in let test = c.if-held-capacity.true in omega arith in
    rw (← c.self.view_is) (room, c.push_back.ensures.items ∙ ap (λ (l : List Block). buffer l ring.capacity) (kept ring.items c.args.block ring.capacity room))
