-- The lines of a plan, connection by connection.
use Rattle.std.proofs.Common.{◌≡◌, ℕ, ◌+◌, ◌<◌, List, ◌++◌, get_or, length, map, zero-add, append-nil, ◌∙◌, ap, arith, None}
use Rattle.std.specs.Prelude.{slice_index, Bool}
use Rattle.std.specs.List.{flat_map}
use Rattle.std.specs.Option.{is_some}
use Rattle.std.proofs.lemmas.List.{append_assoc, get_or-map, get_or_default, length-map}
use Rattle.std.proofs.lemmas.List.Concat.{flat_map-append}
use Rattle.std.proofs.lemmas.List.FromFn.{get_or-map-range_with_len, length-map-range_with_len}
use Rattle.music_base.specs.Numbers.{below}
use Rattle.music_base.proofs.Lists.{range_with_len-more}
use Rattle.scene_model.specs.Waits.{stated, stated_limits}
use Rattle.scene_model.specs.declared.scene.Scene.{Scene}
use Rattle.music_cli.specs.PlanTexts.{plan_line}

-- the line of a connection under these limits
abbrev pub line_under : Scene → List ℕ → ℕ → List ℕ
line_under scene limits c = plan_line scene c (slice_index limits c) (is_some (stated scene c))

-- the lines of the first n connections
abbrev pub lines_below : Scene → List ℕ → ℕ → List ℕ
lines_below scene limits n = flat_map (line_under scene limits) (below n)

-- the lines of one connection more
lines_below-more : (scene : Scene) (limits : List ℕ) (n : ℕ) → lines_below scene limits (n + 1) ≡ lines_below scene limits n ++ line_under scene limits n
lines_below-more scene limits n = rw (range_with_len-more 0 n, flat_map-append, zero-add, append-nil)

-- how many limits may be stated
pub length-which : (scene : Scene) (which : List Bool) → which ≡ map is_some (stated_limits scene) → length which ≡ length scene.links
length-which scene which is = rw is (length-map (stated_limits scene) is_some ∙ length-map-range_with_len (stated scene) 0 (length scene.links))

-- and which are
which-at : (scene : Scene) (which : List Bool) (c : ℕ) (d : Bool) → which ≡ map is_some (stated_limits scene) → c < length scene.links → get_or which c d ≡ is_some (stated scene c)
which-at scene which c d is link =
    let at : get_or (stated_limits scene) c None ≡ stated scene c = get_or-map-range_with_len (stated scene) 0 (length scene.links) c c None link (omega arith) in
    rw is (get_or-map is_some (stated_limits scene) c None d (omega (arith, length-map-range_with_len (stated scene) 0 (length scene.links))) ∙ ap is_some at)

-- the line that is made of what stands in a plan
pub line_is : (scene : Scene) (limits : List ℕ) (which : List Bool) (c limit : ℕ) (is_stated : Bool) → length limits ≡ length scene.links → which ≡ map is_some (stated_limits scene)
    → c < length scene.links → limit ≡ get_or limits c limit → is_stated ≡ get_or which c is_stated → plan_line scene c limit is_stated ≡ line_under scene limits c
line_is scene limits which c limit is_stated counted is link of_limits of_which =
    let first : limit ≡ get_or limits c 0 = of_limits ∙ get_or_default limits c limit 0 (omega arith) in
    let second : is_stated ≡ is_some (stated scene c) = of_which ∙ which-at scene which c is_stated is link in
    ap (λ (m : ℕ). plan_line scene c m is_stated) first ∙ ap (plan_line scene c (get_or limits c 0)) second

pub one_line_more : (scene : Scene) (limits text columns line : List ℕ) (n : ℕ) → text ≡ columns ++ lines_below scene limits n → line ≡ line_under scene limits n
    → text ++ line ≡ columns ++ lines_below scene limits (n + 1)
one_line_more scene limits text columns line n so_far is =
    rw (so_far, is, lines_below-more scene limits n) (append_assoc columns (lines_below scene limits n) (line_under scene limits n))

-- ---- lines that are made piece by piece

pub joined_ends : (text number comma from comma' to : List ℕ) →
    ((((text ++ number) ++ comma) ++ from) ++ comma') ++ to ≡ text ++ ((((number ++ comma) ++ from) ++ comma') ++ to)
joined_ends text number comma from comma' to = simp append_assoc

pub joined_line : (text ends comma limit comma' how end : List ℕ) →
    (((((text ++ ends) ++ comma) ++ limit) ++ comma') ++ how) ++ end ≡ text ++ (((((ends ++ comma) ++ limit) ++ comma') ++ how) ++ end)
joined_line text ends comma limit comma' how end = simp append_assoc
