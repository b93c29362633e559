-- Settings that are on or off.
use Rattle.std.specs.Prelude.{Bool, false}
use Rattle.xvalue.specs.declared.settings.Setting.{Setting}
use Rattle.xvalue.specs.declared.settings.Setting.TheVariants.{Exact, Deleted, Century}
use Rattle.xvalue.specs.declared.settings.Settings.{Settings}

abbrev pub settings_off : Settings
settings_off = record { exact = false; deleted = false; century = false }

-- one setting as told, the others as they were
abbrev pub with_setting : Setting → Bool → Settings → Settings
with_setting Exact on settings = record settings { exact = on }
with_setting Deleted on settings = record settings { deleted = on }
with_setting Century on settings = record settings { century = on }
