mod Queues
mod Writes
