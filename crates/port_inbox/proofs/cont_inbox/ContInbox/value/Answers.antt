use Rattle.std.proofs.Common.{◌≡◌, ◌∙◌, refl, ap, get_or, rules}
use Rattle.music_base.specs.declared.item.Item.TheVariants.{Value}
use Rattle.scene_model.specs.Tables.{value}
use Rattle.port_inbox.specs.Samples.{read, value_of}
use Rattle.port_inbox.proofs.Sampling.{read_is}
use Rattle.port_inbox.proofs.cont_inbox.ContInbox.value.Goals as goal

pub returns-clause-value : goal.returns-clause-value
returns-clause-value c scene b p l table fed =
    let item : get_or c.read_all.new.items 0 c.index-items-0.result ≡ Value c.args.global (read c.args.self.now c.args.step c.args.global) = rw c.read_all.ensures refl in
    let is : c.value_of.result ≡ value scene table b p c.args.step c.args.global = c.value_of.ensures ∙ ap value_of item ∙ read_is scene b p l c.args.self.now table c.args.step fed c.args.global in
    search (rules, is)
