use Rattle.std.proofs.lemmas.Result.{IfOk-weaker}
use Rattle.app_turn.proofs.Inputs.{follows_as, hears_as, listens_as, shaped_events, shaped_nothing, shaped_unfed, shaped_values, shaped_words, unfed_as}
use Rattle.app_turn.proofs.reading.read_port.Goals as goal

pub returns-in-Unfed-clause-reads : goal.returns-in-Unfed-clause-reads
returns-in-Unfed-clause-reads c = IfOk-weaker c.values_of_nothing.result _ _ (unfed_as c.args.scene.now c.requires.faultless c.args.app c.args.port c.args.step c.args.inbox.now c.requires.here c.args.globals.now c.requires.globals c.in-Unfed.is) c.values_of_nothing.ensures

pub returns-in_ok-deliver_events-in-Hears-clause-reads : goal.returns-in_ok-deliver_events-in-Hears-clause-reads
returns-in_ok-deliver_events-in-Hears-clause-reads c =
    rw c.from_vec.ensures (hears_as c.args.scene.now c.requires.faultless c.args.app c.args.port c.args.step c.args.inbox.now c.requires.here c.args.globals.now c.requires.globals c.in-Hears.inbox c.in-Hears.is (rw c.in-Hears.is at c.requires.wanted) c.deliver_events.new.events.items
    (λ table fed. c.in_ok-deliver_events-in-Hears.ensures.heard c.args.scene.now c.args.app c.args.port table fed))

pub returns-in_ok-words-in-Listens-clause-reads : goal.returns-in_ok-words-in-Listens-clause-reads
returns-in_ok-words-in-Listens-clause-reads c =
    IfOk-weaker c.items_of_words.result _ _ (listens_as c.args.scene.now c.requires.faultless c.args.app c.args.port c.args.step c.args.inbox.now c.requires.here c.args.globals.now c.requires.globals c.in-Listens.inbox c.in-Listens.is (rw c.in-Listens.is at c.requires.wanted) c.in_ok-words-in-Listens.words.items
    (λ table fed. c.in_ok-words-in-Listens.ensures.heard c.args.scene.now c.args.app c.args.port table fed)) (rw c.deref.ensures.value at c.items_of_words.ensures)

pub returns-in-Follows-clause-reads : goal.returns-in-Follows-clause-reads
returns-in-Follows-clause-reads c =
    IfOk-weaker c.values_read.result _ _ (follows_as c.args.scene.now c.requires.faultless c.args.app c.args.port c.args.step c.args.inbox.now c.requires.here c.args.globals.now c.requires.globals c.in-Follows.inbox c.in-Follows.is (rw c.in-Follows.is at c.requires.wanted)) c.values_read.ensures

pub returns-in-Silent-clause-shaped : goal.returns-in-Silent-clause-shaped
returns-in-Silent-clause-shaped c = rw c.new.ensures (shaped_nothing c.args.scene.now c.requires.faultless c.args.app c.args.port c.args.step c.args.inbox.now c.requires.here c.args.globals.now c.requires.globals c.in-Silent.is)

pub returns-in-Unfed-clause-shaped : goal.returns-in-Unfed-clause-shaped
returns-in-Unfed-clause-shaped c = IfOk-weaker c.values_of_nothing.result _ _ (shaped_unfed c.args.scene.now c.requires.faultless c.args.app c.args.port c.args.step c.args.inbox.now c.requires.here c.args.globals.now c.requires.globals c.in-Unfed.is) c.values_of_nothing.ensures

pub returns-in_ok-deliver_events-in-Hears-clause-shaped : goal.returns-in_ok-deliver_events-in-Hears-clause-shaped
returns-in_ok-deliver_events-in-Hears-clause-shaped c = shaped_events c.args.scene.now c.requires.faultless c.args.app c.args.port c.args.step c.args.inbox.now c.requires.here c.args.globals.now c.requires.globals c.in-Hears.inbox c.in-Hears.is c.from_vec.result

pub returns-in_ok-words-in-Listens-clause-shaped : goal.returns-in_ok-words-in-Listens-clause-shaped
returns-in_ok-words-in-Listens-clause-shaped c = IfOk-weaker c.items_of_words.result _ _ (λ items _. shaped_words c.args.scene.now c.requires.faultless c.args.app c.args.port c.args.step c.args.inbox.now c.requires.here c.args.globals.now c.requires.globals c.in-Listens.inbox c.in-Listens.is items) c.items_of_words.ensures

pub returns-in-Follows-clause-shaped : goal.returns-in-Follows-clause-shaped
returns-in-Follows-clause-shaped c = IfOk-weaker c.values_read.result _ _ (shaped_values c.args.scene.now c.requires.faultless c.args.app c.args.port c.args.step c.args.inbox.now c.requires.here c.args.globals.now c.requires.globals c.in-Follows.inbox c.in-Follows.is) c.values_read.ensures
