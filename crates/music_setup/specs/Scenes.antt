-- The scene that a configuration describes, or its first fault.
use Rattle.std.specs.Prelude.{ℕ, List, Result, Ok}
use Rattle.text_words.specs.InTurn.{◌>>=◌, faults_as}
use Rattle.config_text.specs.declared.config.Config.{Config}
use Rattle.scene_model.specs.declared.scene.AppDecl.{AppDecl}
use Rattle.scene_model.specs.declared.scene.Link.{Link}
use Rattle.scene_model.specs.declared.scene.Scene.{Scene}
use Rattle.port_match.specs.Links as links
use Rattle.music_setup.specs.Apps as apps
use Rattle.music_setup.specs.Faults.{of_links}
use Rattle.music_setup.specs.declared.fault.SetupFault.{SetupFault}
use Rattle.music_setup.specs.declared.fault.SetupFault.TheVariants as setup

-- the stop and the applications of a configuration
abbrev pub apps_of : Config → Result (ℕ × List AppDecl) SetupFault
apps_of config = faults_as setup.Scene (apps.apps_of config)

-- the links that its connections make between these
abbrev pub links_of : List AppDecl → Config → Result (List Link) SetupFault
links_of apps config = faults_as of_links (links.links_of apps config.links)

-- the stop, the applications and then the links: a fault of a connection stands only where the applications have none
unfoldable pub scene_of : Config → Result Scene SetupFault
scene_of config = do
  read ← apps_of config
  links ← links_of read.1 config
  Ok (record { stop = read.0; apps = read.1; links = links })
