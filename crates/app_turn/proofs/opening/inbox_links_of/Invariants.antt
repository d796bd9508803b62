use Rattle.std.proofs.Common.{◌≤◌, ◌^◌, take}
use Rattle.std.specs.List.{AllByRecursion}
use Rattle.music_base.specs.Pairs.{AllPaired}
use Rattle.port_inbox.specs.Holding.{IsLinkOf}
use Rattle.port_inbox.specs.declared.arrivals.InboxLink.{InboxLink}
use Rattle.app_turn.proofs.opening.inbox_links_of.Given as goal

abbrev pub invariant-loop-place : goal.invariant-loop-place
invariant-loop-place l = record {
  each : AllPaired (IsLinkOf l.scene) (take l.place l.links) l.all.items;
  late : AllByRecursion (λ (link : InboxLink). link.latency ≤ 10 ^ 16) l.all.items;
}
