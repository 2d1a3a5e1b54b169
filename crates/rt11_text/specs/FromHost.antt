-- What a reader still gives of a text of the host, as one of an RT-11 volume.
use Rattle.std.specs.Prelude.{ℕ, List, ◌++◌, Option, drop, option_map}
use Rattle.rt11_text.specs.Crs.{crs_behind, with_crs}
use Rattle.rt11_text.specs.declared.from_host.FromHost.{FromHost}

-- of what a reader gives: its text with the CRs that are missing
abbrev pub lines_of_host : Option (List ℕ) → Option (List ℕ)
lines_of_host unread = option_map with_crs unread

-- what was made and not given yet,
abbrev pub left_in : {R : Type 0} → FromHost R → List ℕ
left_in r = drop r.given r.text.items

-- and with that of what the host still gives
abbrev pub text_to_come : {R : Type 0} → (R → Option (List ℕ)) → FromHost R → Option (List ℕ)
text_to_come remaining r = option_map (λ (text : List ℕ). left_in r ++ crs_behind r.cr text) (remaining r.host)
