-- Links that connections make have their ends, and no fault.
use Rattle.std.proofs.Common.{◌≡◌, ℕ, ◌<◌, Bool, true, false, List, [], ◌∷◌, ◌++◌, length, refl, sym, ap, ◌∙◌, arith}
use Rattle.std.specs.Prelude.{Option, Some, None, Result, Ok, Err, not, ◌&&◌, if◌then◌else◌, bytes_eq, map}
use Rattle.std.specs.List.{list_all, list_any}
use Rattle.std.proofs.lemmas.Bool.{and_parts, lt-ltb}
use Rattle.std.proofs.lemmas.Bool.Decides.{nat_tests}
use Rattle.std.proofs.lemmas.List.{length-map, map-id}
use Rattle.std.proofs.lemmas.List.Folds.{list_all-append}
use Rattle.std.proofs.lemmas.List.Quantifiers.{position-Some}
use Rattle.std.proofs.lemmas.Slice.Eq.{bytes_eq-Decides}
use Rattle.music_base.specs.Names.{is_name}
use Rattle.music_base.proofs.Lists.{all_differ-push}
use Rattle.text_words.specs.InTurn.{◌>>=◌, some_or, unless, faults_as}
use Rattle.config_text.specs.Connections.{is_link}
use Rattle.config_text.specs.declared.link_text.LinkText.{LinkText}
use Rattle.scene_model.specs.Scenes.{no_app, no_port}
use Rattle.scene_model.specs.declared.port.PortDecl.{PortDecl}
use Rattle.scene_model.specs.declared.port.PortKind.{PortKind}
use Rattle.scene_model.specs.declared.port.PortKind.TheVariants.{Events, Values, Messages}
use Rattle.scene_model.specs.declared.scene.AppDecl.{AppDecl}
use Rattle.scene_model.specs.declared.scene.Link.{Link}
use Rattle.scene_model.specs.Links.{AreLinks, app_of, directions_fit, feeds_again, has_ends, has_values, has_lawful_numbers, input_of, is_buffered, is_continuous, is_latency, is_directed, is_of_one_kind, is_width, is_within_width, output_of, port_of, same_ends, same_input, values_fit, width_fits}
use Rattle.scene_model.specs.Ports.{same_kind}
use Rattle.port_match.specs.Links.{app_place, ends_of, fault_after, fault_between, is_fed_by, link_after, link_at_place, links_of, port_place}
use Rattle.port_match.specs.Made.{named}
use Rattle.port_match.specs.declared.fault.LinkKind.{LinkKind}
use Rattle.port_match.specs.declared.fault.LinkKind.TheVariants.{UnknownApp, UnknownPort, Direction, Kind, Width, Unmapped, PairTwice, ContTwice}
use Rattle.text_words.proofs.Turns.{in_turn-keeps, in_turn-map}

-- ---- the ends that were found

-- the names of a connection have these places
record Joins (apps : List AppDecl) (text : LinkText) (link : Link) : Type 0 where
  from_app : app_place apps text.from_app ≡ Some link.from_app
  to_app : app_place apps text.to_app ≡ Some link.to_app
  from_port : port_place (app_of apps link.from_app) text.from_port ≡ Some link.from_port
  to_port : port_place (app_of apps link.to_app) text.to_port ≡ Some link.to_port
  width : link.width ≡ text.width
  latency : link.latency ≡ text.latency
  buffered : link.buffered ≡ text.buffered

abbrev Made : Link → Result Link LinkKind
Made link = Ok link

abbrev Refused : LinkKind → Result Link LinkKind
Refused kind = Err kind

abbrev joined : LinkText → ℕ → ℕ → ℕ → ℕ → Link
joined text a b p q = record { from_app = a; from_port = p; to_app = b; to_port = q; width = text.width; latency = text.latency; buffered = text.buffered }

joins_ports : (apps : List AppDecl) (text : LinkText) (link : Link) (a b : ℕ) (p q : Option ℕ)
    → app_place apps text.from_app ≡ Some a → app_place apps text.to_app ≡ Some b
    → port_place (app_of apps a) text.from_port ≡ p → port_place (app_of apps b) text.to_port ≡ q
    → (some_or p UnknownPort >>= λ p. some_or q UnknownPort >>= λ q. Made (joined text a b p q)) ≡ Ok link → Joins apps text link
joins_ports apps text link a b None q from to left right gave = let stops : Refused UnknownPort ≡ Made link = gave in absurd cc
joins_ports apps text link a b (Some p) None from to left right gave = let stops : Refused UnknownPort ≡ Made link = gave in absurd cc
joins_ports apps text link a b (Some p) (Some q) from to left right gave =
    let is : Made (joined text a b p q) ≡ Made link = gave in
    let same : joined text a b p q ≡ link = cc in
    let joins : Joins apps text (joined text a b p q) = record { from_app = from; to_app = to; from_port = left; to_port = right; width = refl; latency = refl; buffered = refl } in
    rw same at joins

joins_apps : (apps : List AppDecl) (text : LinkText) (link : Link) (a b : Option ℕ)
    → app_place apps text.from_app ≡ a → app_place apps text.to_app ≡ b
    → (some_or a UnknownApp >>= λ a. some_or b UnknownApp >>= λ b. some_or (port_place (app_of apps a) text.from_port) UnknownPort >>= λ p. some_or (port_place (app_of apps b) text.to_port) UnknownPort >>= λ q. Made (joined text a b p q)) ≡ Ok link
    → Joins apps text link
joins_apps apps text link None b from to gave = let stops : Refused UnknownApp ≡ Made link = gave in absurd cc
joins_apps apps text link (Some a) None from to gave = let stops : Refused UnknownApp ≡ Made link = gave in absurd cc
joins_apps apps text link (Some a) (Some b) from to gave = joins_ports apps text link a b _ _ from to refl refl gave

joins : (apps : List AppDecl) (text : LinkText) (link : Link) → ends_of apps text ≡ Ok link → Joins apps text link
unfolding ends_of
joins apps text link gave = joins_apps apps text link _ _ refl refl gave

app_named : (apps : List AppDecl) (name : List ℕ) (a : ℕ) → app_place apps name ≡ Some a → (a < length apps) × ((app_of apps a).name ≡ name)
app_named apps name a at =
    let found = position-Some (λ (app : AppDecl). bytes_eq app.name name) apps a no_app at in
    (found.0, (bytes_eq-Decides (app_of apps a).name name).0 found.1)

port_called : (app : AppDecl) (name : List ℕ) (p : ℕ) → port_place app name ≡ Some p → (p < length app.ports) × ((port_of app p).name ≡ name)
port_called app name p at =
    let found = position-Some (λ (port : PortDecl). bytes_eq port.name name) app.ports p no_port at in
    (found.0, (bytes_eq-Decides (port_of app p).name name).0 found.1)

ends_stand : (apps : List AppDecl) (text : LinkText) (link : Link) → Joins apps text link → has_ends apps link ≡ true
unfolding has_ends
ends_stand apps text link is =
    rw (
      lt-ltb _ _ (app_named apps text.from_app link.from_app is.from_app).0,
      lt-ltb _ _ (app_named apps text.to_app link.to_app is.to_app).0,
      lt-ltb _ _ (port_called (app_of apps link.from_app) text.from_port link.from_port is.from_port).0,
      lt-ltb _ _ (port_called (app_of apps link.to_app) text.to_port link.to_port is.to_port).0,
    ) refl

ends_named : (apps : List AppDecl) (text : LinkText) (link : Link) → Joins apps text link → named apps link ≡ text
unfolding named output_of input_of
ends_named apps text link is =
    rw (
      (app_named apps text.from_app link.from_app is.from_app).1,
      (app_named apps text.to_app link.to_app is.to_app).1,
      (port_called (app_of apps link.from_app) text.from_port link.from_port is.from_port).1,
      (port_called (app_of apps link.to_app) text.to_port link.to_port is.to_port).1,
      is.width,
      is.latency,
      is.buffered,
    ) refl

-- ---- a link that was made

from_place : {E F : Type 0} (f : E → F) (link : Link) (r : Result Link E) → faults_as f r ≡ Ok link → r ≡ Ok link
from_place f link (Ok made) gave = let same : made ≡ link = cc in ap (λ (l : Link). Ok l) same
from_place f link (Err e) gave = absurd cc

from_unless : (fault : Option LinkKind) (link given : Link) → unless fault link ≡ Ok given → (fault ≡ None) × (link ≡ given)
from_unless None link given gave = let same : link ≡ given = cc in (refl, same)
from_unless (Some fault) link given gave = absurd cc

-- it has ends, and no fault after the links before it
record IsMade (apps : List AppDecl) (before : List Link) (text : LinkText) (link : Link) : Type 0 where
  joins_them : Joins apps text link
  no_fault : fault_after apps before link ≡ None

from_ends : (apps : List AppDecl) (before : List Link) (text : LinkText) (link : Link) (ends : Result Link LinkKind)
    → ends_of apps text ≡ ends → (ends >>= λ found. unless (fault_after apps before found) found) ≡ Ok link → IsMade apps before text link
from_ends apps before text link (Err kind) is gave = let stops : Refused kind ≡ Made link = gave in absurd cc
from_ends apps before text link (Ok found) is gave =
    let told = from_unless (fault_after apps before found) found link gave in
    let made : IsMade apps before text found = record { joins_them = joins apps text found is; no_fault = told.0 } in
    rw told.1 at made

is_made : (apps : List AppDecl) (before : List Link) (text : LinkText) (link : Link) → link_at_place apps before text ≡ Ok link → IsMade apps before text link
unfolding link_after
is_made apps before text link gave = from_ends apps before text link _ refl (from_place _ link (link_after apps before text) gave)

-- ---- no fault

-- six tests in turn find no fault
record Passed (a b c d e f : Bool) : Type 0 where
  directed : a ≡ true
  of_one_kind : b ≡ true
  within_width : c ≡ true
  with_values : d ≡ true
  not_joined : e ≡ false
  not_fed : f ≡ false

passed : (a b c d e f : Bool)
    → (if not a then Some Direction else if not b then Some Kind else if not c then Some Width else if not d then Some Unmapped else if e then Some PairTwice else if f then Some ContTwice else None) ≡ None
    → Passed a b c d e f
passed true true true true false false none = record { directed = refl; of_one_kind = refl; within_width = refl; with_values = refl; not_joined = refl; not_fed = refl }
passed true true true true false true none = absurd cc
passed true true true true true f none = absurd cc
passed true true true false e f none = absurd cc
passed true true false d e f none = absurd cc
passed true false c d e f none = absurd cc
passed false b c d e f none = absurd cc

passed_between : (output input : PortDecl) (before : List Link) (link : Link) → fault_between output input before link ≡ None
    → Passed (directions_fit output.direction input.direction) (same_kind output.kind input.kind) (width_fits link.width output input) (values_fit input.kind output input) (list_any (same_ends link) before) (is_fed_by input.kind before link)
unfolding fault_between
passed_between output input before link none = passed _ _ _ _ _ _ none

-- ---- none twice

any_agree : {X : Type 0} (p q : X → Bool) → ((x : X) → p x ≡ q x) → (xs : List X) → list_any p xs ≡ list_any q xs
any_agree p q same [] = refl
any_agree p q same (x ∷ xs) = rw (same x, any_agree p q same xs) refl

any_false : {X : Type 0} (xs : List X) → list_any (λ x. false) xs ≡ false
any_false [] = refl
any_false (x ∷ xs) = any_false xs

same_input_back : (link other : Link) → same_input link other ≡ same_input other link
same_input_back link other = grind (arith, nat_tests)

same_ends_back : (link other : Link) → same_ends link other ≡ same_ends other link
same_ends_back link other = grind (arith, nat_tests)

not_fed_again : (kind : PortKind) (before : List Link) (link : Link) → is_fed_by kind before link ≡ false → list_any (λ other. is_continuous kind && same_input other link) before ≡ false
not_fed_again Values before link none = any_agree (λ other. same_input other link) (same_input link) (λ other. same_input_back other link) before ∙ none
not_fed_again Events before link none = any_false before
not_fed_again Messages before link none = any_false before

-- ---- all links

one_more : {X : Type 0} (p : X → Bool) (xs : List X) (x : X) → list_all p xs ≡ true → p x ≡ true → list_all p (xs ++ x ∷ []) ≡ true
one_more p xs x all is = rw (list_all-append p xs (x ∷ []), all, is) refl

-- each link that is made stands with those before it
kept : (apps : List AppDecl) (before : List Link) (text : LinkText) (link : Link) → AreLinks apps before → link_at_place apps before text ≡ Ok link → AreLinks apps (before ++ link ∷ [])
kept apps before text link so_far gave =
    let made = is_made apps before text link gave in
    let pass = passed_between (output_of apps link) (input_of apps link) before link made.no_fault in
    record {
      with_ends = one_more (has_ends apps) before link so_far.with_ends (ends_stand apps text link made.joins_them);
      directed = one_more (is_directed apps) before link so_far.directed pass.directed;
      of_one_kind = one_more (is_of_one_kind apps) before link so_far.of_one_kind pass.of_one_kind;
      within_width = one_more (is_within_width apps) before link so_far.within_width pass.within_width;
      with_values = one_more (has_values apps) before link so_far.with_values pass.with_values;
      pairs_once = all_differ-push same_ends before link so_far.pairs_once (any_agree (λ other. same_ends other link) (same_ends link) (λ other. same_ends_back other link) before ∙ pass.not_joined);
      continuous_once = all_differ-push (feeds_again apps) before link so_far.continuous_once (not_fed_again (input_of apps link).kind before link pass.not_fed);
    }

pub links_of-are : (apps : List AppDecl) (texts : List LinkText) (links : List Link) → links_of apps texts ≡ Ok links → AreLinks apps links
links_of-are apps texts links gave =
    in_turn-keeps (link_at_place apps) (AreLinks apps) (kept apps) texts [] links
    (record { with_ends = refl; directed = refl; of_one_kind = refl; within_width = refl; with_values = refl; pairs_once = refl; continuous_once = refl }) gave

pub links_of-named : (apps : List AppDecl) (texts : List LinkText) (links : List Link) → links_of apps texts ≡ Ok links → map (named apps) links ≡ texts
links_of-named apps texts links gave =
    in_turn-map (link_at_place apps) (named apps) (λ text. text) (λ before text link is. ends_named apps text link (is_made apps before text link is).joins_them) texts [] links gave
    ∙ map-id texts

-- one for each connection
pub links_of-many : (apps : List AppDecl) (texts : List LinkText) (links : List Link) → links_of apps texts ≡ Ok links → length links ≡ length texts
links_of-many apps texts links gave = sym (length-map links (named apps)) ∙ ap (λ (made : List LinkText). length made) (links_of-named apps texts links gave)

-- ---- what a link states

behind_names : (names width latency buffered : Bool) → (names && width && latency && buffered) ≡ true → (width && latency && buffered) ≡ true
behind_names true width latency buffered is = is
behind_names false width latency buffered is = absurd cc

-- what a connection can state is what a link can
numbers_named : (apps : List AppDecl) (links : List Link) → list_all is_link (map (named apps) links) ≡ true → list_all has_lawful_numbers links ≡ true
unfolding named
numbers_named apps [] lawful = refl
numbers_named apps (link ∷ links) lawful =
    let text : LinkText = named apps link in
    let front = and_parts (is_link text) (list_all is_link (map (named apps) links)) lawful in
    let names : Bool = is_name text.from_app && is_name text.from_port && is_name text.to_app && is_name text.to_port in
    let here : has_lawful_numbers link ≡ true = behind_names names (is_width link.width) (is_latency link.latency) (is_buffered link.buffered) front.0 in
    rw here (numbers_named apps links front.1)

pub links_of-numbers : (apps : List AppDecl) (texts : List LinkText) (links : List Link) → links_of apps texts ≡ Ok links → list_all is_link texts ≡ true → list_all has_lawful_numbers links ≡ true
links_of-numbers apps texts links gave lawful = numbers_named apps links (ap (list_all is_link) (links_of-named apps texts links gave) ∙ lawful)
