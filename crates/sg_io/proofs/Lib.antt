mod MemoryReads
