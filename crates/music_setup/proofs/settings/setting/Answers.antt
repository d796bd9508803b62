use Rattle.music_setup.proofs.settings.setting.Goals as goal

pub returns : goal.returns
returns c = rw c.in_ok-name.ensures at c.lookup.ensures
