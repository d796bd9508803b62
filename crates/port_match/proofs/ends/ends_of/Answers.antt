use Rattle.std.proofs.Common.{◌≡◌, ◌∙◌, ℕ, List, refl, rules, sym}
use Rattle.std.specs.Prelude.{Option, Some, None, Result, Err}
use Rattle.std.specs.Option.{ok_or}
use Rattle.text_words.specs.InTurn.{◌>>=◌, some_or}
use Rattle.config_text.specs.declared.link_text.LinkText.{LinkText}
use Rattle.scene_model.specs.declared.scene.AppDecl.{AppDecl}
use Rattle.scene_model.specs.declared.scene.Link.{Link}
use Rattle.port_match.specs.Links.{app_place, ends_of}
use Rattle.port_match.specs.declared.fault.LinkKind.{LinkKind}
use Rattle.port_match.specs.declared.fault.LinkKind.TheVariants.{UnknownApp}
use Rattle.port_match.proofs.ends.ends_of.Goals as goal

-- where a place is not found, its fault ends the steps
stops : (place : Option ℕ) (missing fault : LinkKind) (f : ℕ → Result Link LinkKind) → Err fault ≡ ok_or place missing → (some_or place missing >>= f) ≡ Err fault
stops None missing fault f is = let same : missing ≡ fault = cc in rw same refl
stops (Some place) missing fault f is = absurd cc

-- the right application is not found
no_right_app : (apps : List AppDecl) (text : LinkText) (a : ℕ) (fault : LinkKind) → app_place apps text.from_app ≡ Some a → Err fault ≡ ok_or (app_place apps text.to_app) UnknownApp
    → ends_of apps text ≡ Err fault
unfolding ends_of
no_right_app apps text a fault left right = rw left (stops (app_place apps text.to_app) UnknownApp fault _ right)

pub returns-in_err-b-clause-ends : goal.returns-in_err-b-clause-ends
returns-in_err-b-clause-ends c =
    let left = sym c.app_place.ensures.place ∙ c.in_ok-a.ensures.ok_part in
    let right = rw c.app_place-2.ensures.place at c.in_err-b.ensures.value in
    let here = no_right_app c.args.apps.now c.args.text.now c.in_ok-a.a c.in_err-b.field-0.0 left right in
    search rules
