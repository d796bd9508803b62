-- Blocks are runs: one index more goes on with the last block, or begins another.
use Rattle.std.proofs.Common.{◌≡◌, ℕ, ◌+◌, ◌-◌, ◌*◌, ◌<◌, ◌≤◌, Bool, true, false, List, [], ◌∷◌, ◌++◌, length, get_or, take, drop, refl, sym, ap, ◌∙◌, inl, inr, arith, append_assoc, append-nil, length-append, length-drop}
use Rattle.std.specs.Prelude.{◌==◌, ◌&&◌, if◌then◌else◌}
use Rattle.std.specs.List.{flat_map, range_with_len}
use Rattle.std.proofs.lemmas.Bool.{and_parts, cases_lt, eqb-true}
use Rattle.std.proofs.lemmas.List.{get_or_past, length-take-le, take-append-drop, take_all, take_more}
use Rattle.std.proofs.lemmas.Grind.{flat_map-append}
use Rattle.music_base.proofs.Lists.{All-push, range_with_len-more}
use Rattle.index_maps.specs.Intervals.{interval_indices, single}
use Rattle.index_maps.specs.declared.interval.Interval.{Interval}
use Rattle.index_maps.specs.declared.span.TheConstants.{INDEX_LIMIT}
use Rattle.index_maps.proofs.CutSteps.{cuts-front, cuts-push, cuts_end-push}
use Rattle.event_routes.specs.Blocks.{AreBlocks, AreRuns, IsBlock, block_routes, cuts_of, routes_from, routes_in, targets_at, width}
use Rattle.event_routes.specs.Routing.{Route, breaks_behind, goes_on, route_to, run_count, same_ranks}
use Rattle.event_routes.specs.declared.target.Target.{Target}
use Rattle.event_routes.specs.declared.block.TargetBlock.{TargetBlock}
use Rattle.event_routes.proofs.RouteLists.{routes_from-push, same_ranks-length}

-- ---- counting runs

abbrev break : Route → Route → ℕ
break before route = if goes_on before route then 0 else 1

breaks-push : (before : Route) (front : List Route) (last route : Route) → breaks_behind before ((front ++ last ∷ []) ++ route ∷ []) ≡ breaks_behind before (front ++ last ∷ []) + break last route
breaks-push before [] last route = omega arith
breaks-push before (x ∷ front) last route = omega (arith, breaks-push x front last route)

pub run_count-push : (front : List Route) (last route : Route) → run_count ((front ++ last ∷ []) ++ route ∷ []) ≡ run_count (front ++ last ∷ []) + break last route
run_count-push [] last route = omega arith
run_count-push (x ∷ front) last route = omega (arith, breaks-push x front last route)

-- ---- the last route of a block

abbrev last_route : TargetBlock → Route
last_route block = record { global = block.interval.after - 1; targets = targets_at block (width block - 1) }

abbrev routes_before : TargetBlock → List Route
routes_before block = routes_from (width block - 1) block.interval.first block.ranks (take ((width block - 1) * block.ranks) block.targets.items)

last_is : (n first after ranks : ℕ) (targets : List Target) → first < after → after - first - 1 ≡ n → length targets ≡ (after - first) * ranks
    → routes_from (after - first) first ranks targets ≡ routes_from n first ranks (take (n * ranks) targets) ++ record { global = after - 1; targets = take ranks (drop (n * ranks) targets) } ∷ []
last_is n first after ranks targets some is size =
    let one_more : after - first ≡ n + 1 = omega arith in
    let more : (n + 1) * ranks ≡ n * ranks + ranks = omega arith in
    let sized : length targets ≡ n * ranks + ranks = size ∙ rw one_more more in
    let back : length (drop (n * ranks) targets) ≡ ranks = omega (arith, length-drop (n * ranks) targets, sized) in
    let front : length (take (n * ranks) targets) ≡ n * ranks = length-take-le (n * ranks) targets (omega (arith, sized)) in
    let at : first + n ≡ after - 1 = omega arith in
    let pushed = routes_from-push n first ranks (take (n * ranks) targets) (drop (n * ranks) targets) front back in
    rw (one_more, take_all ranks (drop (n * ranks) targets) (omega (arith, back))) (rw (take-append-drop (n * ranks) targets, at) at pushed)

block-last : (block : TargetBlock) → IsBlock block → block_routes block ≡ routes_before block ++ last_route block ∷ []
block-last block is = last_is (width block - 1) block.interval.first block.interval.after block.ranks block.targets.items is.some refl is.sized

-- ---- the last block

all_front : (blocks : List TargetBlock) (block : TargetBlock) → AreBlocks (blocks ++ block ∷ []) → AreBlocks blocks × IsBlock block
all_front [] block all = (tt, all.0)
all_front (x ∷ blocks) block all = let rest = all_front blocks block all.1 in ((all.0, rest.0), rest.1)

routes-push : (blocks : List TargetBlock) (block : TargetBlock) → routes_in (blocks ++ block ∷ []) ≡ routes_in blocks ++ block_routes block
routes-push blocks block = flat_map-append block_routes blocks (block ∷ []) ∙ ap (λ rs. routes_in blocks ++ rs) (append-nil (block_routes block))

cuts_of-push : (blocks : List TargetBlock) (block : TargetBlock) → cuts_of (blocks ++ block ∷ []) ≡ cuts_of blocks ++ block.interval ∷ []
cuts_of-push [] block = refl
cuts_of-push (x ∷ blocks) block = ap (λ xs. x.interval ∷ xs) (cuts_of-push blocks block)

pub route_some : (g : ℕ) (targets : List Target) → 0 < length targets → route_to g targets ≡ record { global = g; targets = targets } ∷ []
route_some g [] some = absurd (omega arith)
route_some g (t ∷ targets) some = refl

-- ---- another block

module _ (blocks : List TargetBlock) (g : ℕ) (targets : List Target) (on : AreRuns blocks g) (low : g < INDEX_LIMIT) (some : 0 < length targets) where
  pub begun : (block : TargetBlock) → IsBlock block → block.interval ≡ single g → block_routes block ≡ record { global = g; targets = targets } ∷ []
      → run_count (routes_in blocks ++ route_to g targets) ≡ length blocks + 1 → AreRuns (blocks ++ block ∷ []) (g + 1)
  begun block is at routes breaks =
      let here : cuts_of (blocks ++ block ∷ []) ≡ cuts_of blocks ++ single g ∷ [] = cuts_of-push blocks block ∙ ap (λ x. cuts_of blocks ++ x ∷ []) at in
      let all : routes_in (blocks ++ block ∷ []) ≡ routes_in blocks ++ route_to g targets = routes-push blocks block ∙ ap (λ rs. routes_in blocks ++ rs) (routes ∙ sym (route_some g targets some)) in
      record {
        each = All-push IsBlock blocks block on.each is;
        cuts = rw here (cuts-push 0 (cuts_of blocks) (single g) on.cuts on.ends (omega arith));
        ends = rw (here, cuts_end-push 0 (cuts_of blocks) (single g)) (omega arith);
        limit = rw (here, cuts_end-push 0 (cuts_of blocks) (single g)) (omega arith);
        runs = rw (all, breaks) (length-append blocks (block ∷ []));
      }

  pub begun_routes : (block : TargetBlock) → block_routes block ≡ record { global = g; targets = targets } ∷ [] → routes_in (blocks ++ block ∷ []) ≡ routes_in blocks ++ route_to g targets
  begun_routes block routes = routes-push blocks block ∙ ap (λ rs. routes_in blocks ++ rs) (routes ∙ sym (route_some g targets some))

-- ---- the last block goes on, or does not

module _ (front : List TargetBlock) (block : TargetBlock) (g : ℕ) (targets : List Target) (on : AreRuns (front ++ block ∷ []) g) (some : 0 < length targets) where
  pub last_block : IsBlock block
  last_block = (all_front front block on.each).1

  abbrev tested : Bool
  tested = (block.interval.after == g) && same_ranks (targets_at block (width block - 1)) targets

  -- how many runs there are with the index
  counted : run_count (routes_in (front ++ block ∷ []) ++ route_to g targets) ≡ length (front ++ block ∷ []) + (if tested then 0 else 1)
  counted =
      let is : IsBlock block = last_block in
      let before : List Route = routes_in front ++ routes_before block in
      let one : block.interval.after - 1 + 1 ≡ block.interval.after = omega (arith, is.some) in
      let all : routes_in (front ++ block ∷ []) ≡ before ++ last_route block ∷ [] =
      routes-push front block ∙ (ap (λ rs. routes_in front ++ rs) (block-last block is) ∙ sym (append_assoc (routes_in front) (routes_before block) (last_route block ∷ []))) in
      let runs : length (front ++ block ∷ []) ≡ run_count (before ++ last_route block ∷ []) = rw all at on.runs in
      let pushed = run_count-push before (last_route block) (record { global = g; targets = targets }) in
      rw (all, route_some g targets some, runs) (rw one at pushed)

  pub breaks : tested ≡ false → run_count (routes_in (front ++ block ∷ []) ++ route_to g targets) ≡ length (front ++ block ∷ []) + 1
  breaks no_run = rw no_run at counted

  follows : tested ≡ true → block.interval.after ≡ g
  follows goes = eqb-true block.interval.after g (and_parts (block.interval.after == g) (same_ranks (targets_at block (width block - 1)) targets) goes).0

  pub longer_fits : tested ≡ true → length targets ≡ block.ranks
  longer_fits goes =
      let is : IsBlock block = last_block in
      let same = same_ranks-length (targets_at block (width block - 1)) targets (and_parts (block.interval.after == g) (same_ranks (targets_at block (width block - 1)) targets) goes).1 in
      let one_more : width block ≡ width block - 1 + 1 = omega (arith, is.some) in
      let more : (width block - 1 + 1) * block.ranks ≡ (width block - 1) * block.ranks + block.ranks = omega arith in
      let sized : length block.targets.items ≡ (width block - 1) * block.ranks + block.ranks = is.sized ∙ (ap (λ n. n * block.ranks) one_more ∙ more) in
      let back = length-drop ((width block - 1) * block.ranks) block.targets.items in
      same ∙ length-take-le block.ranks (drop ((width block - 1) * block.ranks) block.targets.items) (omega (arith, back, sized))

  pub longer_routes : (more : TargetBlock) → tested ≡ true → block_routes more ≡ block_routes block ++ record { global = block.interval.after; targets = targets } ∷ []
      → routes_in (front ++ more ∷ []) ≡ routes_in (front ++ block ∷ []) ++ route_to g targets
  longer_routes more goes routes =
      let at : block_routes more ≡ block_routes block ++ route_to g targets = rw (route_some g targets some, ← follows goes) routes in
      rw (routes-push front more, routes-push front block, at) (sym (append_assoc (routes_in front) (block_routes block) (route_to g targets)))

  pub longer : (more : TargetBlock) → tested ≡ true → g < INDEX_LIMIT → IsBlock more → more.interval.first ≡ block.interval.first → more.interval.after ≡ block.interval.after + 1
      → block_routes more ≡ block_routes block ++ record { global = block.interval.after; targets = targets } ∷ [] → AreRuns (front ++ more ∷ []) (g + 1)
  longer more goes low is first after routes =
      let split = cuts-front 0 (cuts_of front) block.interval (rw cuts_of-push at on.cuts) in
      let here : cuts_of (front ++ more ∷ []) ≡ cuts_of front ++ more.interval ∷ [] = cuts_of-push front more in
      let end : more.interval.after ≡ g + 1 = omega (arith, after, follows goes) in
      let sizes : length (front ++ more ∷ []) ≡ length (front ++ block ∷ []) = length-append front (more ∷ []) ∙ sym (length-append front (block ∷ [])) in
      let runs : run_count (routes_in (front ++ block ∷ []) ++ route_to g targets) ≡ length (front ++ block ∷ []) + 0 = rw goes at counted in
      record {
        each = All-push IsBlock front more (all_front front block on.each).0 is;
        cuts = rw here (cuts-push 0 (cuts_of front) more.interval split.0 (omega (arith, split.1, first)) is.some);
        ends = rw (here, cuts_end-push 0 (cuts_of front) more.interval, end) (omega arith);
        limit = rw (here, cuts_end-push 0 (cuts_of front) more.interval, end) (omega arith);
        runs = rw (longer_routes more goes routes, runs, sizes) (omega arith);
      }

-- ---- along the intervals

pub runs-later : (blocks : List TargetBlock) (end later : ℕ) → end ≤ later → AreRuns blocks end → AreRuns blocks later
runs-later blocks end later le on = record { each = on.each; cuts = on.cuts; ends = omega (arith, on.ends); limit = on.limit; runs = on.runs }

-- an index that has a target has a list, and so is below the limit
pub low_index : (lists : List (List Target)) (g : ℕ) → length lists ≤ INDEX_LIMIT → 0 < length (get_or lists g []) → g < INDEX_LIMIT
low_index lists g few some = elim (cases_lt g (length lists)) [
  | inl lt ↦ omega arith
  | inr past ↦ let none : length (get_or lists g []) ≡ 0 = rw (get_or_past lists g [] past) refl in absurd (omega arith)
]

pub no_route : (g : ℕ) (targets : List Target) → length targets ≡ 0 → route_to g targets ≡ []
no_route g [] none = refl
no_route g (t ∷ targets) none = absurd (omega arith)

-- the routes of one index more
pub routes-next : (f : ℕ → List Route) (start now more : List Route) (first g : ℕ) → first ≤ g → now ≡ start ++ flat_map f (range_with_len first (g - first)) → more ≡ now ++ f g
    → more ≡ start ++ flat_map f (range_with_len first (g + 1 - first))
routes-next f start now more first g le was is =
    let one : g + 1 - first ≡ g - first + 1 = omega arith in
    let at : first + (g - first) ≡ g = omega arith in
    rw (is, was, one, range_with_len-more first (g - first), flat_map-append, at) (rw (append-nil (f g)) (append_assoc start (flat_map f (range_with_len first (g - first))) (f g)))

-- the routes of one interval more
pub intervals-next : (f : ℕ → List Route) (intervals : List Interval) (i : ℕ) (d : Interval) (now more : List Route) → i < length intervals
    → now ≡ flat_map f (flat_map interval_indices (take i intervals)) → more ≡ now ++ flat_map f (interval_indices (get_or intervals i d))
    → more ≡ flat_map f (flat_map interval_indices (take (i + 1) intervals))
intervals-next f intervals i d now more lt was is =
    let x : Interval = get_or intervals i d in
    rw (take_more intervals i d lt, flat_map-append interval_indices (take i intervals) (x ∷ []), append-nil (interval_indices x), flat_map-append f (flat_map interval_indices (take i intervals)) (interval_indices x), ← was) is
