-- What the definition gives for a line, so that code and definition can't go wrong together: only the end of a remark's text is trimmed.
--     end-trimmed     blanks before the text are kept, and those behind it aren't
-- Assumes nothing.
use mathlib.Core.Path.{◌≡◌, refl}
use Rattle.number.specs.Trim.{white, kept}
use Rattle.line.specs.Bytes.{bytes}
use Rattle.line.specs.Columns.{rest_of}
use Rattle.field.specs.Text.{end_text_from}
use Rattle.remark.specs.Remark.{remark_of}

pub end-trimmed : (remark_of (bytes "REMARK   2   TWO  ")).text ≡ record { place = 11; length = 5 }
unfolding end_text_from rest_of kept white
end-trimmed = refl
