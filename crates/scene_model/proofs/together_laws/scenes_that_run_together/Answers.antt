use Rattle.scene_model.proofs.Together.{allowance-is, arrivals-is, block_wait-is, clock-is, due-is, moment-is, room_wait-is, steps-is, value-is, wanted-is, wanted_blocks-is}
use Rattle.scene_model.proofs.together_laws.scenes_that_run_together.Goals as goal

pub returns : goal.returns
returns c = record {
  steps = λ scene a ok is app. steps-is scene ok is a app;
  clocks = λ scene a s ok is app. clock-is scene ok is a s app;
  moments = λ scene table a k ok is app. moment-is scene ok is table a k app;
  due = λ scene c time ok is link. due-is scene ok is c time link;
  allowances = λ scene c ok is link. allowance-is scene ok is c link;
  wanted = λ scene c j ok is link. wanted-is scene ok is c j link;
  wanted_blocks = λ scene c ok is link. wanted_blocks-is scene ok is c link;
  arrivals = λ scene table b p j ok is. arrivals-is scene ok is table b p j;
  values = λ scene table b p j g ok is. value-is scene ok is table b p j g;
  block_waits = λ scene c ok is link. block_wait-is scene ok is c link;
  room_waits = λ scene c m ok is link. room_wait-is scene ok is c m link;
}
