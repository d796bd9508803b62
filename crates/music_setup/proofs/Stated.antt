-- Where the connections of a configuration state no option, the links of its scene state nothing.
use Rattle.std.proofs.Common.{◌≡◌, true, List, [], ◌∷◌, ap, ◌∙◌, None}
use Rattle.std.specs.Prelude.{Ok, IfOk, is_none, map}
use Rattle.std.specs.List.{AllByRecursion, list_all}
use Rattle.std.proofs.lemmas.Bool.{and_parts}
use Rattle.music_base.proofs.Lists.{All-at}
use Rattle.text_words.proofs.Results.{IfOk-given, IfOk-of, Ok-faults_as}
use Rattle.config_text.specs.BareTexts.{states_no_option}
use Rattle.config_text.specs.declared.config.Config.{Config}
use Rattle.config_text.specs.declared.link_text.LinkText.{LinkText}
use Rattle.scene_model.specs.Scenes.{no_link}
use Rattle.scene_model.specs.Unstated.{StateNothing}
use Rattle.scene_model.specs.declared.scene.AppDecl.{AppDecl}
use Rattle.scene_model.specs.declared.scene.Link.{Link}
use Rattle.scene_model.specs.declared.scene.Scene.{Scene}
use Rattle.port_match.specs.Links as match
use Rattle.port_match.specs.Made.{named}
use Rattle.port_match.proofs.Made.{links_of-named}
use Rattle.music_setup.specs.Faults.{of_links}
use Rattle.music_setup.specs.Scenes.{apps_of, links_of, scene_of}
use Rattle.music_setup.proofs.OwnTimes.{none_is}

abbrev IsPlain : Link → Type 0
IsPlain link = (link.latency ≡ None) × (link.buffered ≡ None)

-- a link states what the connection of its names states
plain_named : (apps : List AppDecl) (links : List Link) → list_all states_no_option (map (named apps) links) ≡ true → AllByRecursion IsPlain links
unfolding named
plain_named apps [] none = tt
plain_named apps (link ∷ links) none =
    let parts = and_parts (states_no_option (named apps link)) (list_all states_no_option (map (named apps) links)) none in
    let here = and_parts (is_none link.latency) (is_none link.buffered) parts.0 in
    ((none_is link.latency here.0, none_is link.buffered here.1), plain_named apps links parts.1)

links_plain : (apps : List AppDecl) (texts : List LinkText) (links : List Link) → list_all states_no_option texts ≡ true → match.links_of apps texts ≡ Ok links → AllByRecursion IsPlain links
links_plain apps texts links none made = plain_named apps links (ap (list_all states_no_option) (links_of-named apps texts links made) ∙ none)

scene_states : (config : Config) → list_all states_no_option config.links ≡ true → IfOk (scene_of config) StateNothing
unfolding scene_of
scene_states config none =
    IfOk-given StateNothing _ (apps_of config) (λ read is.
    IfOk-given StateNothing _ (links_of read.1 config) (λ links gave.
    let plain = links_plain read.1 config.links links none (Ok-faults_as of_links (match.links_of read.1 config.links) links gave) in
    record {
      latencies = λ c link. (All-at IsPlain links c no_link plain link).0;
      buffers = λ c link. (All-at IsPlain links c no_link plain link).1;
    }))

pub scene_states_nothing : (config : Config) (scene : Scene) → list_all states_no_option config.links ≡ true → scene_of config ≡ Ok scene → StateNothing scene
scene_states_nothing config scene none gave = IfOk-of StateNothing (scene_of config) scene (scene_states config none) gave
