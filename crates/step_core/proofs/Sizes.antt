-- How large what was handed out is.
use Rattle.std.proofs.Common.{ℕ, ◌+◌, ◌≡◌, arith, sym, ◌∙◌, ap, subst, List, length, length-append}
use Rattle.std.specs.Prelude.{Err, IfOk, Ok, OnOk, Result}
use Rattle.std.specs.List.{flat_map}
use Rattle.scene_model.specs.Lives.{history}
use Rattle.scene_model.specs.Logs.{header, line_of, log_of, rows}
use Rattle.scene_model.specs.Orders.{AllFinished}
use Rattle.scene_model.specs.declared.row.Row.{Row}
use Rattle.scene_model.specs.declared.scene.Scene.{Scene}
use Rattle.run_logs.specs.declared.counting.LogSize.{LogSize}
use Rattle.step_core.specs.Cores.{CoreView, Released, opened, rows_out}
use Rattle.step_core.specs.Running.{DidSome, IsRunning, IsSizeOut, text_out}
use Rattle.step_core.proofs.Releases.{none_opened}
use Rattle.step_core.proofs.Running.{out_stays, text_all, text_more, text_opened, text_stays}

-- a core that did nothing handed out no rows
pub opened_size : (scene : Scene) (limits : List ℕ) (core : CoreView) (size : LogSize) → core ≡ opened scene limits → size.rows ≡ 0 → size.bytes ≡ length header → IsSizeOut core size
opened_size scene limits core size is none bytes = record {
  count = none ∙ sym (ap length (ap rows_out is ∙ none_opened scene limits));
  text = bytes ∙ sym (ap length (text_opened scene limits core is));
}

-- acts hand out nothing
pub turn_size : (scene : Scene) (limits : List ℕ) (core next : CoreView) (run : IsRunning scene limits core) → DidSome core next
    → (size : LogSize) → IsSizeOut core size → IsSizeOut next size
turn_size scene limits core next run some size so_far = record {
  count = so_far.count ∙ sym (ap length (out_stays scene limits core next run some));
  text = so_far.text ∙ sym (ap length (text_stays scene limits core next run some));
}

pub still_size : (core next : CoreView) (size : LogSize) → next ≡ core → IsSizeOut core size → IsSizeOut next size
still_size core next size same so_far = subst (λ (x : CoreView). IsSizeOut x size) (sym same) so_far

module _ (scene : Scene) (core next : CoreView) (of : core.scene ≡ scene) (handed : List Row) (is : Released core handed next) where
  -- a release hands out these rows more
  pub release_size : (size more : LogSize) → IsSizeOut core size → more.rows ≡ size.rows + length handed → more.bytes ≡ size.bytes + length (flat_map (line_of scene) handed)
      → IsSizeOut next more
  release_size size more so_far count bytes = record {
    count = omega (arith, count, so_far.count, ap length is.behind, length-append (rows_out core) handed);
    text = omega (arith, bytes, so_far.text, ap length (text_more scene core next of handed is), length-append (text_out core) (flat_map (line_of scene) handed));
  }

  -- and all of the log, where nothing is left to do
  all_out : AllFinished core.scene core.counts → rows_out next ≡ rows scene (history scene)
  all_out finished = is.all finished ∙ ap (λ (s : Scene). rows s (history s)) of

  pub log_rows : (size : LogSize) → AllFinished core.scene core.counts → IsSizeOut next size → size.rows ≡ length (rows scene (history scene))
  log_rows size finished so_far = so_far.count ∙ ap length (all_out finished)

  pub log_bytes : (size : LogSize) → AllFinished core.scene core.counts → IsSizeOut next size → size.bytes ≡ length (log_of scene)
  log_bytes size finished so_far = so_far.text ∙ ap length (text_all scene next (is.same_scene ∙ of) (all_out finished))

-- what follows of the value of an Ok
pub if_both : {T E : Type 0} {P Q S : T → Type 0} (r : Result T E) → ((x : T) → P x → Q x → S x) → IfOk r P → IfOk r Q → IfOk r S
if_both (Ok x) more p q = more x p q
if_both (Err e) more p q = tt

pub on_if : {T E P : Type 0} {Q S : T → Type 0} (r : Result T E) → ((x : T) → P → Q x → S x) → OnOk r P → IfOk r Q → IfOk r S
on_if (Ok x) more p q = more x p q
on_if (Err e) more p q = tt
