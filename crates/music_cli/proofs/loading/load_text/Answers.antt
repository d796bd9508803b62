use Rattle.std.proofs.Common.{[], ◌∷◌, ◌++◌, length, append_assoc, sym}
use Rattle.std.specs.Fmt.{decimal}
use Rattle.std.specs.Prelude.{codes}
use Rattle.music_base.specs.Lines.{line_end}
use Rattle.scene_model.specs.Lives.{history}
use Rattle.scene_model.specs.Logs.{log_of, rows}
use Rattle.music_cli.specs.Answers.{load_text}
use Rattle.music_cli.proofs.loading.load_text.Goals as goal

pub returns : goal.returns
unfolding load_text
returns c =
    let scene = c.args.scene.now in
    rw (
      c.in_ok-push_count-5.ensures,
      c.in_ok-push_count-4.ensures,
      c.in_ok-push_count-3.ensures,
      c.in_ok-push_count-2.ensures,
      c.in_ok-push_count.ensures,
      c.in_ok-text.ensures.items,
      c.from.ensures,
      c.in_ok-size.ensures.rows,
      c.in_ok-size.ensures.bytes,
      c.len.ensures,
      c.len-2.ensures,
    )
    (sym
    (append_assoc
    (codes "load "
    ++ decimal c.args.number
    ++ codes ": "
    ++ decimal (length scene.apps)
    ++ codes " applications, "
    ++ decimal (length scene.links)
    ++ codes " connections, "
    ++ decimal (length (rows scene (history scene)))
    ++ codes " rows, "
    ++ decimal (length (log_of scene)))
    (codes " bytes")
    (line_end ∷ [])))
