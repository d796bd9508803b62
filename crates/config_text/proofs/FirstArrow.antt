-- The arrow that begins first, of either direction, found byte by byte.
use Rattle.std.proofs.Common.{◌≡◌, ℕ, ◌+◌, ◌<◌, true, false, eqb, List, [], ◌∷◌, ◌++◌, length, take, drop, get_or, Option, Some, None, refl, sym, ap, ◌∙◌, arith, append_assoc}
use Rattle.std.specs.Option.{option_map}
use Rattle.std.specs.List.{starts_with}
use Rattle.std.proofs.lemmas.List.{take_more, drop_more, append-nil, drop-drop}
use Rattle.config_text.specs.Bytes.{arrow, back_arrow}
use Rattle.config_text.specs.declared.arrows.Arrow.{Arrow}
use Rattle.config_text.specs.declared.arrows.Arrow.TheVariants.{FromSender, FromReceiver}
use Rattle.config_text.specs.Connections.{AtArrow, onto, split_at_arrow}

abbrev pub front_onto : List ℕ → AtArrow → AtArrow
front_onto front cut = record cut { before = front ++ cut.before }

-- no arrow begins in the front, so the cut is that of what is left, behind the front
pub record IsBeforeArrow (bytes : List ℕ) (i : ℕ) : Type 0 where
  pub so_far : option_map (front_onto (take i bytes)) (split_at_arrow (drop i bytes)) ≡ split_at_arrow bytes

option_map-same : (f g : AtArrow → AtArrow) (o : Option AtArrow) → ((p : AtArrow) → f p ≡ g p) → option_map f o ≡ option_map g o
option_map-same f g None same = refl
option_map-same f g (Some p) same = ap (λ (x : AtArrow). Some x) (same p)

option_map-map : (f g : AtArrow → AtArrow) (o : Option AtArrow) → option_map f (option_map g o) ≡ option_map (λ p. f (g p)) o
option_map-map f g None = refl
option_map-map f g (Some p) = refl

pub arrow_goes : (bytes : List ℕ) (i : ℕ) → i < length bytes → starts_with eqb (drop i bytes) arrow ≡ false → starts_with eqb (drop i bytes) back_arrow ≡ false → IsBeforeArrow bytes i → IsBeforeArrow bytes (i + 1)
arrow_goes bytes i lt plain back so_far =
    let first = get_or bytes i 0 in
    let e = drop_more bytes i 0 lt in
    let rest : split_at_arrow (drop i bytes) ≡ option_map (onto first) (split_at_arrow (drop (i + 1) bytes)) =
    ap split_at_arrow e ∙ rw (rw e at plain, rw e at back) refl in
    let step : (p : AtArrow) → front_onto (take (i + 1) bytes) p ≡ front_onto (take i bytes) (onto first p) =
    λ p. rw (take_more bytes i 0 lt) (ap (λ (x : List ℕ). record p { before = x }) (append_assoc (take i bytes) (first ∷ []) p.before)) in
    record {
      so_far = option_map-same _ _ (split_at_arrow (drop (i + 1) bytes)) step
          ∙ sym (option_map-map (front_onto (take i bytes)) (onto first) (split_at_arrow (drop (i + 1) bytes)))
          ∙ ap (option_map (front_onto (take i bytes))) (sym rest)
          ∙ so_far.so_far;
    }

abbrev cut_here : List ℕ → ℕ → Arrow → AtArrow
cut_here bytes i which = record { before = take i bytes; behind = drop (i + 2) bytes; arrow = which }

found : (bytes : List ℕ) (i : ℕ) (which : Arrow) → split_at_arrow (drop i bytes) ≡ Some (record { before = []; behind = drop (i + 2) bytes; arrow = which }) → IsBeforeArrow bytes i → Some (cut_here bytes i which) ≡ split_at_arrow bytes
found bytes i which rest so_far =
    sym (ap (λ (o : Option AtArrow). option_map (front_onto (take i bytes)) o) rest ∙ ap (λ (x : List ℕ). Some (record { before = x; behind = drop (i + 2) bytes; arrow = which })) (append-nil (take i bytes))) ∙ so_far.so_far

pub arrow_here : (bytes : List ℕ) (i : ℕ) → i < length bytes → starts_with eqb (drop i bytes) arrow ≡ true → IsBeforeArrow bytes i → Some (cut_here bytes i FromSender) ≡ split_at_arrow bytes
arrow_here bytes i lt here so_far =
    let e = drop_more bytes i 0 lt in
    found bytes i FromSender
    (ap split_at_arrow e ∙ rw (rw e at here) (ap (λ (x : List ℕ). Some (record { before = []; behind = x; arrow = FromSender })) (drop-drop 1 (i + 1) bytes ∙ ap (λ (n : ℕ). drop n bytes) (omega arith)))) so_far

pub back_arrow_here : (bytes : List ℕ) (i : ℕ) → i < length bytes → starts_with eqb (drop i bytes) arrow ≡ false → starts_with eqb (drop i bytes) back_arrow ≡ true → IsBeforeArrow bytes i → Some (cut_here bytes i FromReceiver) ≡ split_at_arrow bytes
back_arrow_here bytes i lt plain here so_far =
    let e = drop_more bytes i 0 lt in
    found bytes i FromReceiver
    (ap split_at_arrow e ∙ rw (rw e at plain, rw e at here) (ap (λ (x : List ℕ). Some (record { before = []; behind = x; arrow = FromReceiver })) (drop-drop 1 (i + 1) bytes ∙ ap (λ (n : ℕ). drop n bytes) (omega arith)))) so_far
