-- The applications of made configurations, written out.
use Rattle.std.proofs.Common.{ℕ, List, [], ◌∷◌, map, pos, codes}
use Rattle.index_maps.specs.declared.map.PortMap.{PortMap}
use Rattle.index_maps.specs.declared.map.PortMap.TheVariants.{Split}
use Rattle.music_base.specs.Numbers.{below}
use Rattle.scene_model.specs.WorkedScenes.{input, output}
use Rattle.scene_model.specs.declared.port.PortDecl.{PortDecl}
use Rattle.scene_model.specs.declared.port.PortKind.TheVariants.{Events, Values}
use Rattle.scene_model.specs.declared.rule.Rule.{Rule}
use Rattle.scene_model.specs.declared.rule.Rule.TheVariants.{EmitEvery, Pass, CopyValues, Ramp}
use Rattle.scene_model.specs.declared.scene.AppDecl.{AppDecl}
use Rattle.scene_make.specs.Made.{app_name, ranks_of, tick_of}

-- so many indices, split over the ranks
abbrev pub split : ℕ → ℕ → PortMap
split np size = Split (record { base = 0; size = size }) np

abbrev pub events_in : ℕ → PortDecl
events_in np = input (codes "in") Events (split np 100)

abbrev pub values_in : ℕ → PortDecl
values_in np = input (codes "d") Values (split np 4)

abbrev pub made_ports : ℕ → List PortDecl
made_ports np =
    output (codes "out") Events (split np 100)
    ∷ record (events_in np) { latency = 10_000_000 }
    ∷ output (codes "c") Values (split np 4)
    ∷ record (values_in np) { delay = 10_000_000 }
    ∷ []

abbrev pub emits : ℕ → Rule
emits i = EmitEvery (codes "out") i 2_000_000 500_000

abbrev pub passes_on : Rule
passes_on = Pass (codes "in") (codes "out") (pos 10) 0

abbrev pub copies : Rule
copies = CopyValues (codes "d") (codes "c") (pos 1) 2 (pos 250_000)

abbrev pub rises : Rule
rises = Ramp (codes "c") 0 (pos 0) (pos 1_000)

abbrev pub made_rules : ℕ → List Rule
made_rules i = emits i ∷ passes_on ∷ copies ∷ rises ∷ []

-- the application at place i, with its ranks, its tick and the stop
abbrev pub app_with : ℕ → ℕ → ℕ → ℕ → AppDecl
app_with stop ranks tick i = record {
  name = app_name i;
  np = ranks;
  start = 0;
  stop = stop;
  tick = tick;
  ports = made_ports ranks;
  rules = made_rules i;
}

abbrev pub made_app : ℕ → ℕ → ℕ → AppDecl
made_app stop n i = app_with stop (ranks_of n i) (tick_of n i) i

-- so many of number n, in a scene with this stop
abbrev pub made_apps : ℕ → ℕ → ℕ → List AppDecl
made_apps stop n count = map (made_app stop n) (below count)
