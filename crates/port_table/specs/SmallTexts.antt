-- What small texts declare, as `small_texts` says.
use Rattle.std.specs.Prelude.{ℕ, true, [], ◌∷◌, codes, None}
use Rattle.index_maps.specs.Maps.{no_indices}
use Rattle.index_maps.specs.declared.map.IndexMap.{IndexMap}
use Rattle.index_maps.specs.declared.map.IndexMap.TheVariants.{Linear, Permutation}
use Rattle.index_maps.specs.declared.map.PortMap.TheVariants.{Each, Split}
use Rattle.scene_model.specs.declared.port.Direction.TheVariants.{Output, Input}
use Rattle.scene_model.specs.declared.port.PortKind.TheVariants.{Events, Values, Messages}
use Rattle.scene_model.specs.declared.port.PortDecl.{PortDecl}

abbrev linear : ℕ → ℕ → IndexMap
linear base size = Linear (record { base = base; size = size })

-- out event p 0+10
abbrev pub output_p : PortDecl
output_p = record {
  name = codes "p";
  direction = Output;
  kind = Events;
  map = Each (linear 0 10 ∷ []);
  latency = 0;
  delay = 0;
  interpolate = true;
  buffered = None;
}

-- in event in 3,1,2
abbrev pub input_in : PortDecl
input_in = record {
  name = codes "in";
  direction = Input;
  kind = Events;
  map = Each (Permutation (3 ∷ 1 ∷ 2 ∷ []) ∷ []);
  latency = 0;
  delay = 0;
  interpolate = true;
  buffered = None;
}

-- in cont d 0+2
abbrev pub input_d : PortDecl
input_d = record {
  name = codes "d";
  direction = Input;
  kind = Values;
  map = Each (linear 0 2 ∷ []);
  latency = 0;
  delay = 0;
  interpolate = true;
  buffered = None;
}

-- in cont d split:2+5, for two ranks
abbrev pub split_d : PortDecl
split_d = record input_d { map = Split (record { base = 2; size = 5 }) 2 }

-- in event e 0+4/5+0, for two ranks, of which the second maps nothing
abbrev pub half_empty : PortDecl
half_empty = record input_in { name = codes "e"; map = Each (linear 0 4 ∷ linear 5 0 ∷ []) }

-- out message m and in message n, for two ranks
abbrev pub output_m : PortDecl
output_m = record {
  name = codes "m";
  direction = Output;
  kind = Messages;
  map = Each (linear 0 1 ∷ no_indices ∷ []);
  latency = 0;
  delay = 0;
  interpolate = true;
  buffered = None;
}

abbrev pub input_n : PortDecl
input_n = record output_m { name = codes "n"; direction = Input; map = Each (linear 0 1 ∷ linear 0 1 ∷ []) }
