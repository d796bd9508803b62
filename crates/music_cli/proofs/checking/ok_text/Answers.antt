use Rattle.std.proofs.Common.{[], ◌∷◌, ◌++◌, length, append_assoc, sym}
use Rattle.std.specs.Fmt.{decimal}
use Rattle.std.specs.Prelude.{codes}
use Rattle.music_base.specs.Lines.{line_end}
use Rattle.music_cli.specs.Answers.{ok_text}
use Rattle.music_cli.proofs.checking.ok_text.Goals as goal

pub returns : goal.returns
unfolding ok_text
returns c =
    rw (
      c.in_ok-extend_from_slice-4.ensures.items,
      c.in_ok-extend_from_slice-3.ensures.items,
      c.in_ok-extend_from_slice-2.ensures.items,
      c.in_ok-extend_from_slice.ensures.items,
      c.in_ok-text.ensures.items,
      c.as_bytes.ensures.value,
      c.format.ensures.text,
      c.len.ensures,
      c.as_bytes-2.ensures.value,
      c.format-2.ensures.text,
      c.len-2.ensures,
    )
    (sym (append_assoc (codes "ok: " ++ decimal (length c.args.scene.now.apps) ++ codes " applications, " ++ decimal (length c.args.scene.now.links)) (codes " connections") (line_end ∷ [])))
