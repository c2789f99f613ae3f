-- The places of a list of windows that hold none. Assumes nothing.
use Rattle.std.specs.Prelude.{pos}
use Rattle.model.specs.declared.bench.Window.{Window}

-- what stands at such a place
abbrev pub no_window : Window
no_window = record { floor = pos 0; ceiling = pos 0 }
