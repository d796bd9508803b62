-- The connection of a link that was made.
use Rattle.std.specs.Prelude.{List}
use Rattle.config_text.specs.declared.link_text.LinkText.{LinkText}
use Rattle.scene_model.specs.Links.{app_of, output_of, input_of}
use Rattle.scene_model.specs.declared.scene.AppDecl.{AppDecl}
use Rattle.scene_model.specs.declared.scene.Link.{Link}

-- the connection of a link, with the names of its ends and all that it states
unfoldable pub named : List AppDecl → Link → LinkText
named apps link = record {
  from_app = (app_of apps link.from_app).name;
  from_port = (output_of apps link).name;
  to_app = (app_of apps link.to_app).name;
  to_port = (input_of apps link).name;
  width = link.width;
  latency = link.latency;
  buffered = link.buffered;
}
