-- The sections that are left read on as all do, behind the applications that were read.
use Rattle.std.proofs.Common.{◌≡◌, length, drop}
use Rattle.text_words.specs.InTurn.{in_turn}
use Rattle.music_setup.specs.Apps.{app_beside, apps_until}
use Rattle.music_setup.proofs.apps.apps_until.Given as goal

abbrev pub invariant-loop-place : goal.invariant-loop-place
invariant-loop-place l = record {
  read : in_turn (app_beside l.fn.config l.stop) l.apps (drop l.place l.fn.config.sections) ≡ apps_until l.fn.config l.stop;
  counted : length l.apps ≡ l.place;
}
