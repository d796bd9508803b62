-- The options that words spell are options of the port, and their numbers lie within the limits.
use Rattle.std.proofs.Common.{◌≡◌, ℕ, ◌≤◌, Bool, true, false, List, [], ◌∷◌, arith}
use Rattle.std.specs.Prelude.{Option, Some, None, IfSome, unwrap_or, nat_le, ◌&&◌, codes, bytes_eq, is_none, if◌then◌else◌}
use Rattle.std.specs.Int.{IsInRange}
use Rattle.std.proofs.lemmas.Bool.{leb-true}
use Rattle.music_base.specs.Times.{greatest_time}
use Rattle.music_base.proofs.TimeRange.{result_ok-time_value}
use Rattle.music_base.specs.Counts.{count_up_to}
use Rattle.text_words.specs.OneWord.{time_in}
use Rattle.text_words.proofs.Options.{IfSome-bind, IfSome-if, IfSome-when, count_up_to-is}
use Rattle.scene_model.specs.Limits.{most_buffered}
use Rattle.scene_model.specs.declared.port.Direction.{Direction}
use Rattle.scene_model.specs.declared.port.PortKind.{PortKind}
use Rattle.port_table.specs.Options.{buffered_in, delay_in, flag_in, is_flag, latency_in, no_options, options_in, takes_delay, takes_latency, valued_in}
use Rattle.port_table.specs.declared.options.Options.{Options}

-- ---- what stands of options

pub record AreOptions (options : Options) : Type 0 where
  pub latency : IfSome options.latency (λ time. time ≤ greatest_time)
  pub delay : IfSome options.delay (λ time. time ≤ greatest_time)
  pub buffered : IfSome options.buffered (IsInRange 1 most_buffered)

pub none_are : AreOptions no_options
none_are = record { latency = tt; delay = tt; buffered = tt }

module _ (direction : Direction) (kind : PortKind) where
  -- ---- one more

  time_is : (text : List ℕ) → IfSome (time_in text) (λ time. nat_le time greatest_time ≡ true)
  time_is text = result_ok-time_value text

  latency_is : (options : Options) (text : List ℕ) → AreOptions options → IfSome (latency_in direction kind options text) AreOptions
  latency_is options text so_far =
      IfSome-if AreOptions _ (takes_latency direction kind && is_none options.latency) (λ taken.
      IfSome-bind (λ time. nat_le time greatest_time ≡ true) AreOptions _ (time_in text) (time_is text) (λ time few.
      record {
        latency = leb-true time greatest_time few;
        delay = so_far.delay;
        buffered = so_far.buffered;
      }))

  delay_is : (options : Options) (text : List ℕ) → AreOptions options → IfSome (delay_in direction kind options text) AreOptions
  delay_is options text so_far =
      IfSome-if AreOptions _ (takes_delay direction kind && is_none options.delay) (λ taken.
      IfSome-bind (λ time. nat_le time greatest_time ≡ true) AreOptions _ (time_in text) (time_is text) (λ time few.
      record {
        latency = so_far.latency;
        delay = leb-true time greatest_time few;
        buffered = so_far.buffered;
      }))

  buffered_is : (options : Options) (text : List ℕ) → AreOptions options → IfSome (buffered_in options text) AreOptions
  buffered_is options text so_far =
      IfSome-if AreOptions _ (is_none options.buffered) (λ new.
      IfSome-bind (λ count. nat_le count most_buffered ≡ true) AreOptions _ (count_up_to most_buffered text) (count_up_to-is most_buffered text) (λ count few.
      IfSome-when AreOptions (record options { buffered = Some count }) (nat_le 1 count) (λ some.
      record {
        latency = so_far.latency;
        delay = so_far.delay;
        buffered = (leb-true 1 count some, leb-true count most_buffered few);
      })))

  flag_is : (options : Options) (word : List ℕ) → AreOptions options → IfSome (flag_in direction kind options word) AreOptions
  unfolding flag_in
  flag_is options word so_far =
      IfSome-when AreOptions (record options { interpolate = Some (bytes_eq word (codes "interpolate")) }) (takes_delay direction kind && is_none options.interpolate) (λ taken.
      record {
        latency = so_far.latency;
        delay = so_far.delay;
        buffered = so_far.buffered;
      })

  -- one of three, or none
  chosen : (a b c : Bool) (x y z : Option Options) → IfSome x AreOptions → IfSome y AreOptions → IfSome z AreOptions
      → IfSome (if a then x else if b then y else if c then z else None) AreOptions
  chosen true b c x y z is_x is_y is_z = is_x
  chosen false true c x y z is_x is_y is_z = is_y
  chosen false false true x y z is_x is_y is_z = is_z
  chosen false false false x y z is_x is_y is_z = tt

  valued_is : (options : Options) (word value : List ℕ) → AreOptions options → IfSome (valued_in direction kind options word value) AreOptions
  unfolding valued_in
  valued_is options word value so_far =
      chosen (bytes_eq word (codes "latency")) (bytes_eq word (codes "delay")) (bytes_eq word (codes "buffered")) _ _ _
      (latency_is options value so_far) (delay_is options value so_far) (buffered_is options value so_far)

  -- ---- all of them

  either : (a : Bool) (x y : Option Options) → IfSome x AreOptions → IfSome y AreOptions → IfSome (if a then x else y) AreOptions
  either true x y is_x is_y = is_x
  either false x y is_x is_y = is_y

  pub options_in-are : (options : Options) (words : List (List ℕ)) → AreOptions options → IfSome (options_in direction kind options words) AreOptions
  options_in-are options [] so_far = so_far
  options_in-are options (word ∷ []) so_far = IfSome-if AreOptions _ (is_flag word) (λ flag. flag_is options word so_far)
  options_in-are options (word ∷ value ∷ words) so_far =
      either (is_flag word) _ _
      (IfSome-bind AreOptions AreOptions (λ more. options_in direction kind more (value ∷ words)) (flag_in direction kind options word) (flag_is options word so_far) (λ more is. options_in-are more (value ∷ words) is))
      (IfSome-bind AreOptions AreOptions (λ more. options_in direction kind more words) (valued_in direction kind options word value) (valued_is options word value so_far) (λ more is. options_in-are more words is))

-- ---- what a port has of them

-- a time that is not stated is 0
pub stated_time : (time : Option ℕ) → IfSome time (λ t. t ≤ greatest_time) → unwrap_or time 0 ≤ greatest_time
stated_time None is = omega arith
stated_time (Some time) is = is
