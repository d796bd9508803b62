-- Acts that a core did one after another.
use Rattle.std.proofs.Common.{◌≡◌, ◌∙◌, ap, refl, sym, subst, Bool, true, false, ◌||◌, List, [], ◌∷◌, ◌++◌}
use Rattle.scene_model.specs.Orders.{AllFinished, Counts, IsLawfulFrom, after_all}
use Rattle.scene_model.specs.declared.act.Act.{Act}
use Rattle.step_core.specs.Cores.{Can, CoreView, did}
use Rattle.step_core.specs.Running.{AreDone, DidSome, TookTurn, Went, WentOn}
use Rattle.step_core.proofs.Finding.{after_join, lawful_join}

pub none_done : (core next : CoreView) → next ≡ core → WentOn core next
none_done core next same = ([], record { lawful = tt; is = same })

pub one_done : (core next : CoreView) (act : Act) → Can core act → next ≡ did core act → WentOn core next
one_done core next act can is = (act ∷ [], record { lawful = (can, tt); is = is })

pub then_done : (core mid next : CoreView) → WentOn core mid → WentOn mid next → WentOn core next
then_done core mid next first more = (first.0 ++ more.0, joined first.0 first.1 more.0 more.1)
  where
    joined : (acts : List Act) → AreDone core acts mid → (others : List Act) → AreDone mid others next → AreDone core (acts ++ others) next
    joined acts is others then =
        let F : CoreView → Type 0 = λ x. IsLawfulFrom x.scene x.limits x.counts others in
        record {
          lawful = lawful_join core.scene core.limits core.counts acts others is.lawful (subst F is.is then.lawful);
          is = then.is ∙ ap (λ (x : CoreView). record x { counts = after_all x.counts others }) is.is ∙ ap (λ (s : Counts). record core { counts = s }) (sym (after_join core.counts acts others));
        }

-- one act more
pub then_one : (core mid next : CoreView) (act : Act) → WentOn core mid → Can mid act → next ≡ did mid act → WentOn core next
then_one core mid next act first can is = then_done core mid next first (one_done mid next act can is)

-- ---- whether anything was done

pub did_one : (core next : CoreView) (act : Act) → Can core act → next ≡ did core act → DidSome core next
did_one core next act can is = record { act = act; can = can; more = none_done (did core act) next is }

some_went : (core next : CoreView) → DidSome core next → WentOn core next
some_went core next some = then_done core (did core some.act) next (one_done core (did core some.act) some.act some.can refl) some.more

some_then : (core mid next : CoreView) → DidSome core mid → WentOn mid next → DidSome core next
some_then core mid next some more = record { act = some.act; can = some.can; more = then_done (did core some.act) mid next some.more more }

went_on : (core : CoreView) (acted : Bool) (next : CoreView) → Went core acted next → WentOn core next
went_on core true next some = some_went core next some
went_on core false next same = none_done core next same

-- one after another: something was done, where one of them did something
pub went_then : (core : CoreView) (acted : Bool) (mid : CoreView) (more : Bool) (next : CoreView) → Went core acted mid → Went mid more next → Went core (acted || more) next
went_then core true mid more next first then = some_then core mid next first (went_on mid more next then)
went_then core false mid more next same then = subst (λ (x : CoreView). Went x more next) same then

pub went_some : (core : CoreView) (acted : Bool) (mid next : CoreView) → Went core acted mid → DidSome mid next → DidSome core next
went_some core true mid next first some = some_then core mid next first (some_went mid next some)
went_some core false mid next same some = subst (λ (x : CoreView). DidSome x next) same some

pub went_still : (core : CoreView) (acted : Bool) (mid next : CoreView) → Went core acted mid → next ≡ mid → Went core acted next
went_still core acted mid next went same = subst (λ (x : CoreView). Went core acted x) (sym same) went

-- nothing was done, and then a turn
pub turn_then : (core mid : CoreView) (acted : Bool) (next : CoreView) → mid ≡ core → TookTurn mid acted next → TookTurn core acted next
turn_then core mid acted next same turn = subst (λ (x : CoreView). TookTurn x acted next) same turn
