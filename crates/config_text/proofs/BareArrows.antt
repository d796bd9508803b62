-- Where "->" alone is an arrow, both readings find the same one.
use Rattle.std.proofs.Common.{◌≡◌, ℕ, Bool, true, false, eqb, List, [], ◌∷◌, drop, refl, sym, subst, ap, ◌∙◌, Option, Some, None}
use Rattle.std.specs.Prelude.{if◌then◌else◌, Ok, is_some}
use Rattle.std.specs.List.{list_any, before_first, starts_with}
use Rattle.std.specs.Option.{option_map}
use Rattle.std.proofs.lemmas.Bool.{or_parts}
use Rattle.text_words.specs.Words.{words}
use Rattle.music_base.specs.Blanks.{is_blank}
use Rattle.music_base.proofs.FirstPlaces.{before_first-none, after_first-none}
use Rattle.config_text.specs.Bytes.{arrow, back_arrow, is_equals, is_open_bracket}
use Rattle.config_text.specs.BareTexts as bare
use Rattle.config_text.specs.Options.{no_options, options_in}
use Rattle.config_text.specs.Connections.{AtArrow, onto, split_at_arrow, right_in}
use Rattle.config_text.specs.Contents.{is_setting}
use Rattle.config_text.proofs.Dashes.{is_less}
use Rattle.config_text.specs.declared.arrows.Arrow.TheVariants.{FromSender}

-- no word, no option
pub no_text : options_in [] ≡ Some no_options
unfolding options_in words
no_text = refl

-- ---- the arrow

abbrev Cut : Type 0
Cut = List ℕ × List ℕ

abbrev cut_forth : List ℕ → List ℕ → Option AtArrow
cut_forth l r = Some (record { before = l; behind = r; arrow = FromSender })

-- a byte before the cut
abbrev onto_cut : ℕ → Cut → Cut
onto_cut b parts = (b ∷ parts.0, parts.1)

abbrev whole_cut : List ℕ → List ℕ → Option Cut
whole_cut l r = Some (l, r)

abbrev cut_of : Option Cut → Cut
cut_of None = ([], [])
cut_of (Some parts) = parts

-- where no '<' stands before the first arrow "->", no other begins before it
pub same_cut : (xs l r : List ℕ) → list_any is_less l ≡ false → bare.split_at_arrow xs ≡ Some (l, r) → split_at_arrow xs ≡ cut_forth l r
same_cut [] l r none e = absurd cc
same_cut (b ∷ xs) l r none e = go (λ front rest clear is. same_cut xs front rest clear is) (starts_with eqb (b ∷ xs) arrow) refl e
  where
    Again : Type 0
    Again = (front rest : List ℕ) → list_any is_less front ≡ false → bare.split_at_arrow xs ≡ Some (front, rest) → split_at_arrow xs ≡ cut_forth front rest

    later : Again → (o : Option Cut) → bare.split_at_arrow xs ≡ o → starts_with eqb (b ∷ xs) arrow ≡ false → option_map (onto_cut b) o ≡ whole_cut l r → split_at_arrow (b ∷ xs) ≡ cut_forth l r
    later again None is plain e = absurd cc
    later again (Some (front, rest)) is plain e =
        let same_l : b ∷ front ≡ l = ap (λ (o : Option Cut). (cut_of o).0) e in
        let same_r : rest ≡ r = ap (λ (o : Option Cut). (cut_of o).1) e in
        let clear : list_any is_less (b ∷ front) ≡ false = subst (λ (xs : List ℕ). list_any is_less xs ≡ false) (sym same_l) none in
        let parts = or_parts (is_less b) (list_any is_less front) clear in
        rw (plain, parts.0, again front rest parts.1 is, same_r, ← same_l) refl

    go : Again → (t : Bool) → starts_with eqb (b ∷ xs) arrow ≡ t → (if t then whole_cut [] (drop 1 xs) else option_map (onto_cut b) (bare.split_at_arrow xs)) ≡ whole_cut l r → split_at_arrow (b ∷ xs) ≡ cut_forth l r
    go again true here e =
        let same_l : [] ≡ l = ap (λ (o : Option Cut). (cut_of o).0) e in
        let same_r : drop 1 xs ≡ r = ap (λ (o : Option Cut). (cut_of o).1) e in
        rw (here, ← same_l, ← same_r) refl
    go again false plain e = later again (bare.split_at_arrow xs) refl plain e

-- ---- the right part

pub bare_right : (right : List ℕ) → list_any is_open_bracket right ≡ false → list_any is_blank right ≡ false → right_in right ≡ Ok (record { end = right; width = None; options = [] })
bare_right right no_bracket blank = rw (no_bracket, before_first-none is_blank right blank, after_first-none is_blank right blank) refl

-- ---- a line that is no setting

is_some-map : {X Y : Type 0} (f : X → Y) (o : Option X) → is_some (option_map f o) ≡ is_some o
is_some-map f None = refl
is_some-map f (Some x) = refl

-- where an arrow "->" stands, an arrow stands
pub still_some : (xs : List ℕ) → is_some (bare.split_at_arrow xs) ≡ true → is_some (split_at_arrow xs) ≡ true
still_some [] some = absurd cc
still_some (b ∷ xs) some = go (λ e. still_some xs e) (starts_with eqb (b ∷ xs) arrow) (starts_with eqb (b ∷ xs) back_arrow) refl refl
  where
    go : (is_some (bare.split_at_arrow xs) ≡ true → is_some (split_at_arrow xs) ≡ true) → (s t : Bool) → starts_with eqb (b ∷ xs) arrow ≡ s → starts_with eqb (b ∷ xs) back_arrow ≡ t
        → is_some (split_at_arrow (b ∷ xs)) ≡ true
    go again true t here back = rw here refl
    go again false true here back = rw (here, back) refl
    go again false false here back =
        let before : is_some (option_map (onto_cut b) (bare.split_at_arrow xs)) ≡ true = rw here at some in
        rw (here, back) (is_some-map (onto b) (split_at_arrow xs) ∙ again (sym (is_some-map (onto_cut b) (bare.split_at_arrow xs)) ∙ before))

-- what was no setting is none
pub not_setting : (content : List ℕ) → bare.is_setting content ≡ false → is_setting content ≡ false
not_setting content fails = go (list_any is_equals content) (is_some (bare.split_at_arrow (before_first is_equals content))) refl refl
  where
    go : (s t : Bool) → list_any is_equals content ≡ s → is_some (bare.split_at_arrow (before_first is_equals content)) ≡ t → is_setting content ≡ false
    go false t none some = rw none refl
    go true true any some = rw (any, still_some (before_first is_equals content) some) refl
    go true false any some = let yes : true ≡ false = rw (any, some) at fails in absurd cc
