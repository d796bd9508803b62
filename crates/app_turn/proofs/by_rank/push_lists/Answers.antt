use Rattle.std.proofs.Common.{◌≡◌, ◌<◌, ◌∙◌, ◌++◌, [], List, ℕ, ap, arith, map, sym, length, get_or}
use Rattle.std.proofs.lemmas.List.{get_or_read}
use Rattle.index_maps.specs.Maps.{globals_of, rank_count}
use Rattle.music_base.specs.Numbers.{below}
use Rattle.std.specs.List.{flat_map}
use Rattle.scene_model.specs.declared.row.RowItem.{RowItem}
use Rattle.app_turn.specs.ByRank.{got_at}
use Rattle.app_turn.specs.Rows.{rank_rows_of, row_of}
use Rattle.app_turn.specs.declared.rows.ReadAt.{ReadAt}
use Rattle.app_turn.proofs.ByRank.{events_in}
use Rattle.app_turn.proofs.RowParts.{flat_more}
use Rattle.app_turn.proofs.by_rank.push_lists.Goals as goal

pub loop-rank-preserved : goal.loop-rank-preserved
loop-rank-preserved c =
    let rank = c.loop-rank.rank in
    let items = c.args.items.now in
    let globals = globals_of c.args.decl.now.map rank in
    let small : rank < length c.args.lists.now = c.loop-rank-test.true in
    let place : ReadAt = record { clock = c.args.clock; app = c.args.app; port = c.args.port; rank = rank } in
    let places : c.as_slice.result.now ≡ get_or c.args.lists.now rank [] = c.as_slice.ensures ∙ get_or_read c.args.lists.now rank c.index-lists-rank.result small c.index-lists-rank.is [] in
    flat_more (λ r. rank_rows_of c.args.decl.now (record { clock = c.args.clock; app = c.args.app; port = c.args.port; rank = r }) items)
    rank c.args.rows.now c.loop-rank.rows _ c.loop-rank.invariant
    (c.in_ok-push_places.ensures
    ∙ ap (λ (ps : List ℕ). c.loop-rank.rows ++ map (row_of place) (got_at globals items ps)) places
    ∙ ap (λ (ys : List RowItem). c.loop-rank.rows ++ map (row_of place) ys)
    (c.requires.got rank (omega (arith, small, c.requires.count)) ∙ sym (events_in c.args.decl.now.direction c.args.decl.now.kind globals items c.requires.input c.requires.events)))

pub returns : goal.returns
returns c =
    let all : c.loop-rank.rank ≡ rank_count c.args.decl.now.map = omega (arith, c.loop-rank-test.false, c.loop-rank.auto.rank-end, c.requires.count) in
    c.loop-rank.invariant
    ∙ ap (λ n. c.args.rows.now ++ flat_map (λ r. rank_rows_of c.args.decl.now (record { clock = c.args.clock; app = c.args.app; port = c.args.port; rank = r }) c.args.items.now) (below n)) all
