-- Each text of made configurations is read by computation.
use Rattle.std.proofs.Common.{◌≡◌, ◌<◌, ℕ, zero, suc, ◌+◌, ◌*◌, map, Some, Ok, refl, arith}
use Rattle.std.specs.Fmt.{decimal, digits}
use Rattle.music_base.specs.Counts.{count_up_to}
use Rattle.music_base.specs.Times.{canonical_time, scaled, time_value}
use Rattle.index_maps.specs.Intervals.{ranks_mapping, first_shared}
use Rattle.index_maps.specs.Repeats.{first_repeat}
use Rattle.text_words.specs.Numbers.{signed_within, millionths, fixed}
use Rattle.text_words.specs.OneWord.{time_in}
use Rattle.text_words.specs.Words.{words, declarations}
use Rattle.port_table.specs.MapWords.{span_in, index_list, rank_map, rank_maps, split_span, map_in}
use Rattle.port_table.specs.Options.{flag_in, valued_in}
use Rattle.port_table.specs.Ports.{port_in, fault_beside, port_beside, ports_of}
use Rattle.app_scripts.specs.Forms.{index_word, shift_word, scale_word, message_word, name_after, time_after, fixed_after, shift_after, scale_after, last_time_after, last_fixed_after, emit_at, emit_every, pass, set_value, ramp, copy_values, when_over, say, reply, rule_in}
use Rattle.music_setup.specs.Apps.{np_in, tick_in}
use Rattle.scene_make.specs.Made.{ports_text, rules_text}
use Rattle.made_laws.proofs.MadeScenes.{made_ports, made_rules}

pub ranks_spelled : (k : ℕ) → k < 2 → np_in (Some (decimal (1 + k))) ≡ Some (1 + k)
unfolding np_in count_up_to digits
ranks_spelled zero lt = refl
ranks_spelled (suc zero) lt = refl
ranks_spelled (suc (suc k)) lt = absurd (omega (arith, lt))

pub ticks_spelled : (k : ℕ) → k < 3 → tick_in (Some (canonical_time ((1 + k) * 1_000_000))) ≡ Some ((1 + k) * 1_000_000)
unfolding tick_in time_value scaled canonical_time digits
ticks_spelled zero lt = refl
ticks_spelled (suc zero) lt = refl
ticks_spelled (suc (suc zero)) lt = refl
ticks_spelled (suc (suc (suc k))) lt = absurd (omega (arith, lt))

pub stops_spelled : (k : ℕ) → k < 5 → time_in (canonical_time ((1 + k) * 1_000_000_000)) ≡ Some ((1 + k) * 1_000_000_000)
unfolding time_value scaled canonical_time digits
stops_spelled zero lt = refl
stops_spelled (suc zero) lt = refl
stops_spelled (suc (suc zero)) lt = refl
stops_spelled (suc (suc (suc zero))) lt = refl
stops_spelled (suc (suc (suc (suc zero)))) lt = refl
stops_spelled (suc (suc (suc (suc (suc k))))) lt = absurd (omega (arith, lt))

pub ports_spelled : (k : ℕ) → k < 2 → ports_of (1 + k) ports_text ≡ Ok (made_ports (1 + k))
unfolding digits count_up_to scaled time_value ranks_mapping first_shared first_repeat words declarations span_in index_list rank_map rank_maps split_span map_in flag_in valued_in port_in fault_beside port_beside
ports_spelled zero lt = refl
ports_spelled (suc zero) lt = refl
ports_spelled (suc (suc k)) lt = absurd (omega (arith, lt))

pub rules_spelled : (i : ℕ) → i < 8 → map rule_in (declarations (rules_text i)) ≡ map (λ rule. Some rule) (made_rules i)
unfolding digits count_up_to scaled time_value words declarations signed_within millionths fixed index_word shift_word scale_word message_word name_after time_after fixed_after shift_after scale_after last_time_after last_fixed_after emit_at emit_every pass set_value ramp copy_values when_over say reply rule_in
rules_spelled zero lt = refl
rules_spelled (suc zero) lt = refl
rules_spelled (suc (suc zero)) lt = refl
rules_spelled (suc (suc (suc zero))) lt = refl
rules_spelled (suc (suc (suc (suc zero)))) lt = refl
rules_spelled (suc (suc (suc (suc (suc zero))))) lt = refl
rules_spelled (suc (suc (suc (suc (suc (suc zero)))))) lt = refl
rules_spelled (suc (suc (suc (suc (suc (suc (suc zero))))))) lt = refl
rules_spelled (suc (suc (suc (suc (suc (suc (suc (suc i)))))))) lt = absurd (omega (arith, lt))
