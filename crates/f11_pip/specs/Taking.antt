-- As what a file is copied that `get` takes out (profile).
use Rattle.f11_commands.specs.flx.declared.mode.CopyMode.{CopyMode}
use Rattle.f11_words.specs.declared.words.TakingMode.{TakingMode}
use Rattle.f11_words.specs.declared.words.TakingMode.TheVariants.{Auto, Copy}

-- as what was asked for, or as what the file's header decides
abbrev pub mode_taken : TakingMode → CopyMode → CopyMode
mode_taken (Copy mode) by_header = mode
mode_taken Auto by_header = by_header
