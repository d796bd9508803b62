-- What the stop, the applications and the links of a configuration give for its scene.
use Rattle.std.proofs.Common.{◌≡◌, ℕ, ◌<◌, ◌≤◌, List, length, Ok, refl}
use Rattle.music_base.proofs.Lists.{All-at}
use Rattle.config_text.specs.declared.config.Config.{Config}
use Rattle.scene_model.specs.Scenes.{no_app}
use Rattle.scene_model.specs.declared.scene.AppDecl.{AppDecl}
use Rattle.scene_model.specs.declared.scene.Link.{Link}
use Rattle.scene_model.specs.Faults.{AreApps, IsApp}
use Rattle.scene_model.specs.Limits.{most_ports}
use Rattle.scene_model.specs.Links.{app_of}
use Rattle.port_match.specs.Links.{links_of, IsFaultOf}
use Rattle.port_match.specs.declared.fault.MatchFault.{MatchFault}
use Rattle.port_match.specs.declared.fault.MatchFault.TheVariants as match
use Rattle.music_setup.specs.Apps.{apps_of}
use Rattle.music_setup.specs.Faults.{IsSceneFault, IsSetupFault, of_links}
use Rattle.music_setup.specs.Scenes.{scene_of}
use Rattle.music_setup.specs.declared.fault.SetupFault.{SetupFault}
use Rattle.music_setup.specs.declared.fault.SetupFault.TheVariants as setup

-- a fault of the stop or of an application is that of the scene
pub scene_fault : (config : Config) (fault : SetupFault) → IsSceneFault (apps_of config) fault → IsSetupFault (scene_of config) fault
unfolding scene_of
scene_fault config setup.Memory is = tt
scene_fault config (setup.Scene fault) is = rw is refl
scene_fault config (setup.Link _ _) is = absurd is
scene_fault config (setup.Uncovered _) is = absurd is
scene_fault config (setup.Text _ _) is = absurd is

-- and so is one of a connection, where these have none
pub link_fault : (config : Config) (stop : ℕ) (apps : List AppDecl) (fault : MatchFault) → apps_of config ≡ Ok (stop, apps) → IsFaultOf (links_of apps config.links) fault → IsSetupFault (scene_of config) (of_links fault)
unfolding scene_of
link_fault config stop apps match.Memory read is = tt
link_fault config stop apps (match.Link _ _) read is = rw (read, is) refl

pub read_scene : (config : Config) (stop : ℕ) (apps : List AppDecl) (links : List Link) → apps_of config ≡ Ok (stop, apps) → links_of apps config.links ≡ Ok links
    → scene_of config ≡ Ok (record { stop = stop; apps = apps; links = links })
unfolding scene_of
read_scene config stop apps links read made = rw (read, made) refl

-- applications without a fault have few ports
pub few_ports : (apps : List AppDecl) → AreApps apps → (a : ℕ) → a < length apps → length (app_of apps a).ports ≤ most_ports
few_ports apps are a stands = (All-at IsApp apps a no_app are.each stands).ports.few
