-- What a call that reads a part of a file answers. Assumes nothing.
use Rattle.std.specs.Prelude.{◌≡◌, ℕ, Ok, Err, Result}
use Rattle.layout.specs.declared.cursor.Cursor.{Cursor}
use Rattle.layout.specs.Layouts.{Layout, Outcome, reached, refused, reads}

-- what a call returned, with the offset that it left; `view x` is what the value x stands for
abbrev pub outcome : {F A X : Type 0} → (X → A) → Result X F → ℕ → Outcome F A
outcome view (Ok x) q = reached (view x) q
outcome view (Err f) q = refused f

-- the call reads the layout l from the cursor on: it answers what comes of l, and leaves the cursor behind what it read
pub record Reads {F A X : Type 0} (l : Layout F A) (before after : Cursor) (view : X → A) (r : Result X F) : Type 0 where
  pub same : after.bytes.now ≡ before.bytes.now
  pub comes : outcome view r after.at ≡ reads l before.bytes.now before.at
