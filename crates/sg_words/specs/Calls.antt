-- The call for a step: what its actor knows of the step before it sees anything.
use Rattle.sg_words.specs.declared.steps.BlockStep.{BlockStep}
use Rattle.sg_words.specs.declared.steps.BlockStep.TheVariants.{LoadBlock, WonBlock, LostBlock, StoreBlock, LoadUsed, OrUsed, StoreUsed, LoadMarks, OrMarks, StoreMarks, Zero}
use Rattle.sg_words.specs.declared.steps.Step.{Step}
use Rattle.sg_words.specs.declared.steps.Step.TheVariants.{Load, Store, Won, Lost, OnBlock}
use Rattle.sg_words.specs.declared.steps.BlockCall.{BlockCall}
use Rattle.sg_words.specs.declared.steps.BlockCall.TheVariants.{LoadsBlock, SwapsBlock, StoresBlock, LoadsUsed, OrsUsed, StoresUsed, LoadsMarks, OrsMarks, StoresMarks, Zeroes}
use Rattle.sg_words.specs.declared.steps.Call.{Call}
use Rattle.sg_words.specs.declared.steps.Call.TheVariants.{Loads, Stores, Swaps, OnBlocks}

abbrev pub block_call_of : BlockStep → BlockCall
block_call_of (LoadBlock block saw) = LoadsBlock block
block_call_of (WonBlock block seen new) = SwapsBlock block seen new
block_call_of (LostBlock block seen new found) = SwapsBlock block seen new
block_call_of (StoreBlock block new) = StoresBlock block new
block_call_of (LoadUsed block saw) = LoadsUsed block
block_call_of (OrUsed block slot found) = OrsUsed block slot
block_call_of (StoreUsed block new) = StoresUsed block new
block_call_of (LoadMarks block saw) = LoadsMarks block
block_call_of (OrMarks block slot found) = OrsMarks block slot
block_call_of (StoreMarks block new) = StoresMarks block new
block_call_of (Zero number) = Zeroes number

-- the call for a step; an exchange is one call, whether it is won or lost
abbrev pub call_of : Step → Call
call_of (Load place saw) = Loads place
call_of (Store place new) = Stores place new
call_of (Won place seen new) = Swaps place seen new
call_of (Lost place seen new found) = Swaps place seen new
call_of (OnBlock step) = OnBlocks (block_call_of step)
