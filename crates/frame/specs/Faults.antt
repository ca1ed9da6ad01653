-- The number, the place, the layer and the reason of each refusal of a frame.
use Rattle.std.specs.Prelude.{ℕ, List, codes}
use Rattle.layer.specs.declared.Layer.{Layer}
use Rattle.layer.specs.declared.Layer.TheVariants.{Frame}
use Rattle.mode.specs.Faults.{number_of as mode_number, place_of as mode_place, layer_of as mode_layer, reason_of as mode_reason}
use Rattle.frame.specs.declared.fault.FrameFault.{FrameFault}
use Rattle.frame.specs.declared.fault.FrameFault.TheVariants.{UnknownMode, ClearTooLong, MessageTooLong, OutputShort, FrameShort, BadField, FrameLength, Sealing}
use Rattle.frame.specs.Fields.{field_place}

abbrev pub number_of : FrameFault → ℕ
number_of UnknownMode = 7
number_of ClearTooLong = 8
number_of MessageTooLong = 9
number_of OutputShort = 10
number_of FrameShort = 11
number_of (BadField field) = 12
number_of FrameLength = 13
number_of (Sealing fault) = mode_number fault

abbrev pub place_of : FrameFault → ℕ
place_of UnknownMode = 0
place_of ClearTooLong = 0
place_of MessageTooLong = 0
place_of OutputShort = 0
place_of FrameShort = 0
place_of (BadField field) = field_place field
place_of FrameLength = 0
place_of (Sealing fault) = mode_place fault

abbrev pub layer_of : FrameFault → Layer
layer_of UnknownMode = Frame
layer_of ClearTooLong = Frame
layer_of MessageTooLong = Frame
layer_of OutputShort = Frame
layer_of FrameShort = Frame
layer_of (BadField field) = Frame
layer_of FrameLength = Frame
layer_of (Sealing fault) = mode_layer fault

-- why, in plain words
abbrev pub reason_of : FrameFault → List ℕ
reason_of UnknownMode = codes "the mode is neither 1 nor 2"
reason_of ClearTooLong = codes "the clear part is above 1024 bytes"
reason_of MessageTooLong = codes "the message is above 1024 bytes"
reason_of OutputShort = codes "the output is too short"
reason_of FrameShort = codes "the frame is below 48 bytes"
reason_of (BadField field) = codes "a field of the head breaks its rule"
reason_of FrameLength = codes "the frame does not end where its tag does"
reason_of (Sealing fault) = mode_reason fault
