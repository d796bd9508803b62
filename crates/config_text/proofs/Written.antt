-- What is written so far, with one line or one section more.
use Rattle.std.proofs.Common.{◌≡◌, ℕ, ◌+◌, ◌<◌, List, [], ◌∷◌, ◌++◌, length, map, take, get_or, Some, ap, sym, ◌∙◌, append_assoc}
use Rattle.std.specs.Prelude.{slice_get}
use Rattle.std.specs.List.{flat_map}
use Rattle.std.proofs.lemmas.List.{map_push, flat_map_more, append-nil, take_more}
use Rattle.std.proofs.lemmas.List.Concat.{flat_map-append}
use Rattle.config_text.specs.declared.link_text.LinkText.{LinkText}
use Rattle.config_text.specs.Connections.{link_line}
use Rattle.config_text.specs.Pairs.{SettingList, SectionList}
use Rattle.music_base.specs.Lines.{ended}
use Rattle.config_text.specs.Canon.{setting_line, section_lines}
use Rattle.config_text.proofs.Entries.{taken}

pub setting_more : (out base : List ℕ) (ps : SettingList) (i : ℕ) (p : List ℕ × List ℕ) → slice_get ps i ≡ Some p → out ≡ base ++ flat_map ended (map setting_line (take i ps))
    → out ++ ended (setting_line p) ≡ base ++ flat_map ended (map setting_line (take (i + 1) ps))
setting_more out base ps i p at so_far =
    rw (taken ps i p at, map_push setting_line (take i ps) p, so_far) (flat_map_more ended base (map setting_line (take i ps)) (setting_line p))

pub section_more : (out base : List ℕ) (ss : SectionList) (i : ℕ) (s : List ℕ × SettingList) → slice_get ss i ≡ Some s → out ≡ base ++ flat_map ended (flat_map section_lines (take i ss))
    → out ++ flat_map ended (section_lines s) ≡ base ++ flat_map ended (flat_map section_lines (take (i + 1) ss))
section_more out base ss i s at so_far =
    let front = flat_map section_lines (take i ss) in
    let lines : flat_map section_lines (take (i + 1) ss) ≡ front ++ section_lines s =
    ap (flat_map section_lines) (taken ss i s at) ∙ flat_map-append section_lines (take i ss) (s ∷ []) ∙ ap (λ (l : List (List ℕ)). front ++ l) (append-nil (section_lines s)) in
    rw (lines, so_far, flat_map-append ended front (section_lines s)) (append_assoc base (flat_map ended front) (flat_map ended (section_lines s)))

pub link_more : (out base : List ℕ) (links : List LinkText) (i : ℕ) (link : LinkText) → i < length links → link ≡ get_or links i link → out ≡ base ++ flat_map ended (map link_line (take i links))
    → out ++ ended (link_line link) ≡ base ++ flat_map ended (map link_line (take (i + 1) links))
link_more out base links i link lt at so_far =
    let more : take (i + 1) links ≡ take i links ++ link ∷ [] = take_more links i link lt ∙ ap (λ (l : LinkText). take i links ++ l ∷ []) (sym at) in
    rw (more, map_push link_line (take i links) link, so_far) (flat_map_more ended base (map link_line (take i links)) (link_line link))

-- what is put in turn is put as one list
pub seven_put : (out a b c d e f g : List ℕ) → out ++ a ++ b ++ c ++ d ++ e ++ f ++ g ≡ out ++ (a ++ b ++ c ++ d ++ e ++ f ++ g)
seven_put out a b c d e f g =
    let two : out ++ a ++ b ≡ out ++ (a ++ b) = append_assoc out a b in
    let three : out ++ a ++ b ++ c ≡ out ++ (a ++ b ++ c) = ap (λ (l : List ℕ). l ++ c) two ∙ append_assoc out (a ++ b) c in
    let four : out ++ a ++ b ++ c ++ d ≡ out ++ (a ++ b ++ c ++ d) = ap (λ (l : List ℕ). l ++ d) three ∙ append_assoc out (a ++ b ++ c) d in
    let five : out ++ a ++ b ++ c ++ d ++ e ≡ out ++ (a ++ b ++ c ++ d ++ e) = ap (λ (l : List ℕ). l ++ e) four ∙ append_assoc out (a ++ b ++ c ++ d) e in
    let six : out ++ a ++ b ++ c ++ d ++ e ++ f ≡ out ++ (a ++ b ++ c ++ d ++ e ++ f) = ap (λ (l : List ℕ). l ++ f) five ∙ append_assoc out (a ++ b ++ c ++ d ++ e) f in
    ap (λ (l : List ℕ). l ++ g) six ∙ append_assoc out (a ++ b ++ c ++ d ++ e ++ f) g
