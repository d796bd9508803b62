-- A scene without a fault, as each scene is that a text describes.
use Rattle.std.specs.Prelude.{◌≡◌, ◌≤◌, Bool, true, List, length}
use Rattle.std.specs.Int.{IsInRange}
use Rattle.std.specs.List.{list_all, AllByRecursion}
use Rattle.music_base.specs.Clocks.{steps_until}
use Rattle.music_base.specs.Names.{is_name}
use Rattle.music_base.specs.Numbers.{all_differ}
use Rattle.music_base.specs.Times.{greatest_time}
use Rattle.scene_model.specs.Clocks.{span}
use Rattle.scene_model.specs.Limits.{longest_tick, most_apps, most_links, most_ranks, most_steps, most_values}
use Rattle.scene_model.specs.Links.{AreLinks, has_lawful_numbers}
use Rattle.scene_model.specs.Ports.{ArePorts}
use Rattle.scene_model.specs.Rules.{AreRules, runs_for}
use Rattle.scene_model.specs.Turns.{same_name}
use Rattle.scene_model.specs.Values.{values_in_run}
use Rattle.scene_model.specs.declared.scene.AppDecl.{AppDecl}
use Rattle.scene_model.specs.declared.scene.Scene.{Scene}

pub record IsApp (app : AppDecl) : Type 0 where
  pub name : is_name app.name ≡ true
  pub np : IsInRange 1 most_ranks app.np
  pub start : app.start ≤ greatest_time
  pub stop : app.stop ≤ greatest_time
  pub tick : IsInRange 1 longest_tick app.tick
  pub few_steps : steps_until (span app) app.tick ≤ most_steps
  pub ports : ArePorts app.np app.ports
  pub rules : AreRules app.ports app.tick (runs_for (span app) app.tick) app.rules
  pub few_values : values_in_run (span app) app.tick app.ports ≤ most_values

-- no two applications have one name
abbrev pub app_names_differ : List AppDecl → Bool
app_names_differ = all_differ (λ (app : AppDecl) (other : AppDecl). same_name app.name other.name)

pub record AreApps (apps : List AppDecl) : Type 0 where
  pub few : length apps ≤ most_apps
  pub each : AllByRecursion IsApp apps
  pub differ : app_names_differ apps ≡ true

-- Its numbers lie within their limits, applications and ports have names that differ, each port has a map for each rank,
-- each rule is one that a text can spell and asks for nothing that its application has not, and each link joins two
-- ports that fit together.
pub record IsFaultless (scene : Scene) : Type 0 where
  pub stop : scene.stop ≤ greatest_time
  pub apps : AreApps scene.apps
  pub few_links : length scene.links ≤ most_links
  pub link_numbers : list_all has_lawful_numbers scene.links ≡ true
  pub links : AreLinks scene.apps scene.links
