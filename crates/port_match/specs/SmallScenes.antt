-- Two applications, of which `small_scenes` says what connections between them make.
use Rattle.std.specs.Prelude.{ℕ, List, [], ◌∷◌, codes, Result, Some, None}
use Rattle.config_text.specs.declared.link_text.LinkText.{LinkText}
use Rattle.scene_model.specs.WorkedScenes.{linear, input, output}
use Rattle.scene_model.specs.declared.port.PortDecl.{PortDecl}
use Rattle.scene_model.specs.declared.port.PortKind.TheVariants.{Events, Values, Messages}
use Rattle.scene_model.specs.declared.scene.AppDecl.{AppDecl}
use Rattle.scene_model.specs.declared.scene.Link.{Link}
use Rattle.port_match.specs.Links.{links_of}
use Rattle.port_match.specs.declared.fault.MatchFault.{MatchFault}

abbrev app : List ℕ → List PortDecl → AppDecl
app name ports = record { name = name; np = 1; start = 0; stop = 0; tick = 1_000_000; ports = ports; rules = [] }

-- an output and an input of each kind
abbrev pub left : AppDecl
left = app (codes "left") (
    output (codes "out") Events (linear 0 4)
    ∷ input (codes "in") Events (linear 0 4)
    ∷ output (codes "level") Values (linear 0 4)
    ∷ input (codes "seen") Values (linear 1 2)
    ∷ output (codes "note") Messages (linear 0 1)
    ∷ input (codes "cmd") Messages (linear 0 1)
    ∷ []
    )

-- an output of few events and an input of many, and continuous ports
abbrev pub right : AppDecl
right = app (codes "right") (
    output (codes "few") Events (linear 0 2)
    ∷ input (codes "many") Events (linear 0 8)
    ∷ output (codes "level") Values (linear 0 4)
    ∷ input (codes "seen") Values (linear 0 4)
    ∷ input (codes "past") Values (linear 2 4)
    ∷ []
    )

-- left.P -> right.Q and so on
abbrev pub joins : List ℕ → List ℕ → List ℕ → List ℕ → LinkText
joins a p b q = record { from_app = a; from_port = p; to_app = b; to_port = q; width = None; latency = None; buffered = None }

-- the same with a width, and with a latency and how many blocks are kept
abbrev pub within : ℕ → LinkText → LinkText
within width text = record text { width = Some width }

abbrev pub stating : ℕ → ℕ → LinkText → LinkText
stating latency blocks text = record text { latency = Some latency; buffered = Some blocks }

-- what connections make between the two
abbrev pub matched : List LinkText → Result (List Link) MatchFault
matched texts = links_of (left ∷ right ∷ []) texts

-- ---- connections

-- left.out -> left.in, right.many, and right.few -> right.many
abbrev pub out_in : LinkText
out_in = joins (codes "left") (codes "out") (codes "left") (codes "in")

abbrev pub out_many : LinkText
out_many = joins (codes "left") (codes "out") (codes "right") (codes "many")

abbrev pub few_many : LinkText
few_many = joins (codes "right") (codes "few") (codes "right") (codes "many")

-- left.level -> left.seen, right.seen and right.past, and right.level -> right.seen
abbrev pub level_seen : LinkText
level_seen = joins (codes "left") (codes "level") (codes "left") (codes "seen")

abbrev pub level_across : LinkText
level_across = joins (codes "left") (codes "level") (codes "right") (codes "seen")

abbrev pub level_past : LinkText
level_past = joins (codes "left") (codes "level") (codes "right") (codes "past")

abbrev pub level_back : LinkText
level_back = joins (codes "right") (codes "level") (codes "right") (codes "seen")

-- left.note -> left.cmd
abbrev pub note_cmd : LinkText
note_cmd = joins (codes "left") (codes "note") (codes "left") (codes "cmd")
