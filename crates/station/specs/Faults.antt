-- The number, the place and the layer of each refusal of a station.
use Rattle.std.specs.Prelude.{ℕ, List, codes}
use Rattle.layer.specs.declared.Layer.{Layer}
use Rattle.layer.specs.declared.Layer.TheVariants.{Station}
use Rattle.frame.specs.Faults.{number_of as frame_number_of, place_of as frame_place_of, layer_of as frame_layer_of, reason_of as frame_reason_of}
use Rattle.station.specs.declared.fault.StationFault.{StationFault}
use Rattle.station.specs.declared.fault.StationFault.TheVariants.{SameId, BadNumber, Exhausted, NotOut, UnknownSender, NotAbove, Frame}

abbrev pub number_of : StationFault → ℕ
number_of SameId = 3
number_of BadNumber = 4
number_of Exhausted = 5
number_of NotOut = 6
number_of UnknownSender = 14
number_of NotAbove = 15
number_of (Frame fault) = frame_number_of fault

abbrev pub place_of : StationFault → ℕ
place_of SameId = 0
place_of BadNumber = 0
place_of Exhausted = 0
place_of NotOut = 0
place_of UnknownSender = 16
place_of NotAbove = 26
place_of (Frame fault) = frame_place_of fault

abbrev pub layer_of : StationFault → Layer
layer_of SameId = Station
layer_of BadNumber = Station
layer_of Exhausted = Station
layer_of NotOut = Station
layer_of UnknownSender = Station
layer_of NotAbove = Station
layer_of (Frame fault) = frame_layer_of fault

-- why, in plain words
abbrev pub reason_of : StationFault → List ℕ
reason_of SameId = codes "the station's own id is its peer's too"
reason_of BadNumber = codes "the start or the floor is outside the frame numbers"
reason_of Exhausted = codes "every frame number has been handed out"
reason_of NotOut = codes "the ticket is not the one that is out here"
reason_of UnknownSender = codes "the sender is not the peer"
reason_of NotAbove = codes "the number is not above the highest one"
reason_of (Frame fault) = frame_reason_of fault
