use Rattle.port_inbox.proofs.Listing.{indices-ascend}
use Rattle.port_inbox.proofs.cont_inbox.ContInbox.make.Goals as goal

pub new-samples-requires : goal.new-samples-requires
new-samples-requires c = indices-ascend c.args.sender.now c.in_ok-indices.indices c.in_ok-indices.ensures
