-- The line that an answer is printed as.
use Rattle.std.specs.Prelude.{ℕ, List, ◌++◌, Some, None, codes, decimal, Option}
use Rattle.std.specs.Fmt.{◌++?◌}
use Rattle.layer.specs.Layers.{name_of}
use Rattle.script.specs.declared.answer.StateLine.{StateLine}
use Rattle.script.specs.declared.answer.Answer.{Answer}
use Rattle.script.specs.declared.answer.Answer.TheVariants.{Made, Ticket, GivenUp, Sealed, Opened, Refused}

abbrev pub answer_line : Answer → List ℕ
answer_line Made = codes "made"
answer_line (Ticket id number) = codes "ticket " ++ (decimal id ++ (codes " " ++ decimal number))
answer_line GivenUp = codes "given up"
answer_line (Sealed len) = codes "sealed " ++ decimal len
answer_line (Opened len number) = codes "opened " ++ (decimal len ++ (codes " number " ++ decimal number))
answer_line (Refused number place layer) = codes "refused " ++ (decimal number ++ (codes " at " ++ (decimal place ++ (codes " in " ++ name_of layer))))

-- a number that may be missing
abbrev pub or_dash : Option ℕ → List ℕ
or_dash None = codes "-"
or_dash (Some n) = decimal n

abbrev pub state_line : StateLine → List ℕ
state_line s =
    codes "next " ++ (decimal s.next ++ (codes " out " ++ (or_dash s.out.0 ++ (codes " highest " ++ (decimal s.highest ++ (codes " reserved " ++ (decimal s.reserved ++ (codes " sealed " ++ (decimal s.sealed ++ (codes " written-off " ++ decimal s.written_off))))))))))

-- of a text that is printed as nothing known, nothing is known of the line
abbrev pub parts_line : ℕ → Option (List ℕ) → ℕ → Option (List ℕ) → ℕ → Option (List ℕ) → Option (List ℕ)
parts_line clear_at clear sealed_at sealed tag_at tag =
    Some (codes "clear " ++ (decimal clear_at ++ codes " "))
    ++? clear
    ++? Some (codes " sealed " ++ (decimal sealed_at ++ codes " "))
    ++? sealed
    ++? Some (codes " tag " ++ (decimal tag_at ++ codes " "))
    ++? tag

abbrev pub out_line : Option (List ℕ) → Option (List ℕ)
out_line text = Some (codes "out ") ++? text

abbrev pub not_read_line : ℕ → Option (List ℕ) → Option (List ℕ)
not_read_line line reason = Some (codes "line " ++ (decimal line ++ codes ": ")) ++? reason
