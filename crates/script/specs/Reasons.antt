-- Why a line is not read, in plain words.
use Rattle.std.specs.Prelude.{ℕ, List, codes}
use Rattle.script.specs.declared.reason.Reason.{Reason}
use Rattle.script.specs.declared.reason.Reason.TheVariants.{NotText, UnknownWord, WordMissing, WordTooMany, NotHex, TooLong, NotAKey, NotANumber, NotACipher, NotAMasking, UnknownStation, UsedName, UnknownTicket, LabelInUse}

abbrev pub text_of : Reason → List ℕ
text_of NotText = codes "the line is not text"
text_of UnknownWord = codes "a line begins with cipher, masking, station, reserve, giveup, seal, open, parts or state"
text_of WordMissing = codes "a word is missing"
text_of WordTooMany = codes "a word too many"
text_of NotHex = codes "a string is written as pairs of hexadecimal digits, or - where it is empty"
text_of TooLong = codes "a string has at most 65536 bytes"
text_of NotAKey = codes "a key has 16 bytes"
text_of NotANumber = codes "a number is out of its bounds, or not written in digits"
text_of NotACipher = codes "a cipher is identity, aes or speck, with inverse before it or not"
text_of NotAMasking = codes "a masking is doubling or tower"
text_of UnknownStation = codes "no station has this name"
text_of UsedName = codes "a station has this name already"
text_of UnknownTicket = codes "no ticket has this label"
text_of LabelInUse = codes "a ticket has this label already"
