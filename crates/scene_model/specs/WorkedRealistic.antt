-- A realistic scene: events that a clock sends round a loop, messages, and a value that is watched.
use Rattle.std.specs.Prelude.{ℕ, List, [], ◌∷◌, pos, codes}
use Rattle.index_maps.specs.declared.map.PortMap.{PortMap}
use Rattle.index_maps.specs.declared.map.PortMap.TheVariants.{Split}
use Rattle.scene_model.specs.WorkedScenes.{ms, linear, output, input, link, log}
use Rattle.scene_model.specs.declared.scene.Scene.{Scene}
use Rattle.scene_model.specs.declared.scene.AppDecl.{AppDecl}
use Rattle.scene_model.specs.declared.rule.Rule.TheVariants.{EmitEvery, Pass, SetValue, Ramp, When, Say}
use Rattle.scene_model.specs.declared.port.PortKind.TheVariants.{Events, Values, Messages}

-- split:0+4 over two ranks
abbrev pub halves : PortMap
halves = Split (record { base = 0; size = 4 }) 2

-- an event each millisecond, and a message each 2 ms
abbrev pub clk : AppDecl
clk = record {
  name = codes "clk";
  np = 1;
  start = 0;
  stop = ms 4;
  tick = ms 1;
  ports = output (codes "tick") Events (linear 0 4) ∷ output (codes "note") Messages (linear 0 1) ∷ [];
  rules = EmitEvery (codes "tick") 0 (ms 1) 0 ∷ Say (codes "note") (codes "go") (ms 2) 500_000 ∷ [];
}

-- two applications that pass events on to each other, each with the next index
abbrev pub left : AppDecl
left = record {
  name = codes "left";
  np = 2;
  start = 0;
  stop = ms 4;
  tick = ms 1;
  ports = record (input (codes "in") Events halves) { latency = ms 1 } ∷ output (codes "out") Events halves ∷ [];
  rules = Pass (codes "in") (codes "out") (pos 1) 200_000 ∷ [];
}

abbrev pub right : AppDecl
right = record {
  name = codes "right";
  np = 1;
  start = 0;
  stop = ms 4;
  tick = ms 2;
  ports = record (input (codes "in") Events (linear 0 4)) { latency = ms 2 } ∷ output (codes "out") Events (linear 0 4) ∷ [];
  rules = Pass (codes "in") (codes "out") (pos 1) 0 ∷ [];
}

-- one value that rises by a unit each 2 ms, and one of a half
abbrev pub wave : AppDecl
wave = record {
  name = codes "wave";
  np = 1;
  start = 0;
  stop = ms 4;
  tick = ms 2;
  ports = output (codes "level") Values (linear 0 2) ∷ input (codes "cmd") Messages (linear 0 1) ∷ [];
  rules = Ramp (codes "level") 0 (pos 0) (pos 1_000_000) ∷ SetValue (codes "level") 1 (pos 500_000) ∷ [];
}

-- reads the values 2 ms late, and gives an alarm when the first is above a quarter
abbrev pub watch : AppDecl
watch = record {
  name = codes "watch";
  np = 1;
  start = 0;
  stop = ms 4;
  tick = ms 1;
  ports =
      record (input (codes "level") Values (linear 0 2)) { delay = ms 2 }
      ∷ input (codes "seen") Events (linear 0 4)
      ∷ output (codes "alarm") Events (linear 0 1)
      ∷ [];
  rules = When (codes "level") 0 (pos 250_000) (codes "alarm") 0 ∷ [];
}

abbrev pub realistic : Scene
realistic = record {
  stop = ms 4;
  apps = clk ∷ left ∷ right ∷ wave ∷ watch ∷ [];
  links = link 0 0 1 0 ∷ link 1 1 2 0 ∷ link 2 1 1 0 ∷ link 2 1 4 1 ∷ link 0 1 3 1 ∷ link 3 0 4 0 ∷ [];
}

abbrev pub realistic_log : List ℕ
realistic_log = log (
    codes "0,wave,cmd,message,0,0,0,500000,go"
    ∷ codes "0,watch,level,cont,0,0,0,,0"
    ∷ codes "0,watch,level,cont,0,1,1,,0"
    ∷ codes "1000000,left,in,event,0,0,0,0,"
    ∷ codes "1000000,watch,level,cont,0,0,0,,0"
    ∷ codes "1000000,watch,level,cont,0,1,1,,0"
    ∷ codes "2000000,left,in,event,0,0,0,1000000,"
    ∷ codes "2000000,right,in,event,0,1,1,1200000,"
    ∷ codes "2000000,wave,cmd,message,0,0,0,2500000,go"
    ∷ codes "2000000,watch,level,cont,0,0,0,,0"
    ∷ codes "2000000,watch,level,cont,0,1,1,,500000"
    ∷ codes "2000000,watch,seen,event,0,2,2,2000000,"
    ∷ codes "3000000,left,in,event,0,0,0,2000000,"
    ∷ codes "3000000,left,in,event,1,0,2,2000000,"
    ∷ codes "3000000,watch,level,cont,0,0,0,,500000"
    ∷ codes "3000000,watch,level,cont,0,1,1,,500000"
    ∷ [])
