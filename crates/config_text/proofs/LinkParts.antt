-- What a lawful connection is made of.
use Rattle.std.proofs.Common.{◌≡◌, true}
use Rattle.std.proofs.lemmas.Bool.{and_parts}
use Rattle.music_base.specs.Names.{is_name}
use Rattle.config_text.specs.declared.link_text.LinkText.{LinkText}
use Rattle.config_text.specs.Connections.{is_link, is_width}
use Rattle.config_text.specs.Options.{is_latency, is_buffered}

pub record LinkParts (link : LinkText) : Type 0 where
  pub from_app : is_name link.from_app ≡ true
  pub from_port : is_name link.from_port ≡ true
  pub to_app : is_name link.to_app ≡ true
  pub to_port : is_name link.to_port ≡ true
  pub width : is_width link.width ≡ true
  pub latency : is_latency link.latency ≡ true
  pub buffered : is_buffered link.buffered ≡ true

pub link_parts : (link : LinkText) → is_link link ≡ true → LinkParts link
link_parts link lawful =
    let g = and_parts _ (is_buffered link.buffered) lawful in
    let f = and_parts _ (is_latency link.latency) g.0 in
    let a = and_parts _ (is_width link.width) f.0 in
    let b = and_parts _ (is_name link.to_port) a.0 in
    let d = and_parts _ (is_name link.to_app) b.0 in
    let e = and_parts (is_name link.from_app) (is_name link.from_port) d.0 in
    record { from_app = e.0; from_port = e.1; to_app = d.1; to_port = b.1; width = a.1; latency = f.1; buffered = g.1 }
