use Rattle.music_cli.proofs.answering.made_scene.Goals as goal

pub returns-in-Ok-clause-scene : goal.returns-in-Ok-clause-scene
returns-in-Ok-clause-scene c = rw c.in_ok-config.ensures.config at c.in-Ok.ensures.scene
